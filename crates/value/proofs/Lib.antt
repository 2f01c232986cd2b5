pub mod BitLaws
pub mod IntegerLaws
pub mod SignedLaws
pub mod DoubleLaws
pub mod SampleLaws
pub mod DecimalLaws
pub mod ExactLaws
pub mod ParameterLaws
