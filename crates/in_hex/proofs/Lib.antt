pub mod DoubleLaws
pub mod HexLaws
