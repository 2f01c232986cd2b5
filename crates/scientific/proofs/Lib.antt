pub mod ShiftedLaws
pub mod ReadLaws
pub mod FormLaws
