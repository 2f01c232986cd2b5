pub mod ListingLaws
pub mod SplitLaws
pub mod ScanLaws
pub mod EveryLaws
pub mod SheetPlaces
