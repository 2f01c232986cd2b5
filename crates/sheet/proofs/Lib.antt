pub mod OpenLaws
pub mod FitsLaws
