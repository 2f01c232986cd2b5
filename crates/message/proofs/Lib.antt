pub mod MessageLaws
pub mod DeliveryLaws
pub mod Cut
