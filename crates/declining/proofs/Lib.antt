pub mod AnswerLaws
pub mod RowsLaws
