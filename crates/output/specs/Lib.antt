pub mod Text
pub mod Output
pub mod Number
pub mod Read
