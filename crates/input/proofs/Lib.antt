pub mod SpaceLaws
pub mod MoveLaws
pub mod NumberLaws
pub mod SignedLaws
