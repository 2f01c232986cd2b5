pub mod UnescapeLaws
pub mod WordLaws
pub mod HeadLaws
pub mod CopyLaws
pub mod Carried
pub mod ReadBack
pub mod Edges
pub mod ParsedHead
