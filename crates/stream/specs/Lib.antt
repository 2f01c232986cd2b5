pub mod Content
pub mod Errors
pub mod Filled
