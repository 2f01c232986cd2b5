pub mod WidthLaws
pub mod TurnLaws
pub mod VisitLaws
