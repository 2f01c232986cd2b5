pub mod Message
pub mod Delivery
