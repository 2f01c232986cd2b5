pub mod Double
pub mod Integer
pub mod Reading
pub mod Status
pub mod Value
pub mod Parameter
pub mod Exact
pub mod Answer
