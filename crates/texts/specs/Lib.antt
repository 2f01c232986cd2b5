pub mod Class
pub mod Table
