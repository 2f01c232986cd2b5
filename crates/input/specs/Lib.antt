pub mod Words
pub mod Window
