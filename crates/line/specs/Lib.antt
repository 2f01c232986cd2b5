pub mod Line
pub mod Argument
pub mod Answer
pub mod Edges
