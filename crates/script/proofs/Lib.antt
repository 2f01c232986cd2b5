pub mod BytesLaws
pub mod KindLaws
pub mod ReadingLaws
pub mod ReplayLaws
