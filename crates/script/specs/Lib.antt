pub mod Script
pub mod Replay
