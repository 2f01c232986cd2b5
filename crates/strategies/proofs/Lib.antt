pub mod SettingLaws
pub mod TypeLaws
pub mod KindLaws
