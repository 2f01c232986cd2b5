pub mod PrintLaws
pub mod ShownLaws
pub mod Begins
