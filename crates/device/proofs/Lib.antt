pub mod ClearLaws
pub mod Delivered
pub mod ExitLaws
pub mod ReadingLaws
pub mod ReasonLaws
pub mod RowLaws
