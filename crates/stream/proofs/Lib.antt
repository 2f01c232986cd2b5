pub mod FilledLaws
pub mod TurnLaws
pub mod KnownLaws
