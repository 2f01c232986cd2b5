pub mod Reading
pub mod Effects
