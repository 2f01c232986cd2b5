pub mod At
pub mod ChainLaws
pub mod PassLaws
pub mod BeforeLaws
pub mod SameLaws
pub mod TableLaws
