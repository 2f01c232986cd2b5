pub mod Texts
pub mod Apart
pub mod Keys
pub mod Found
