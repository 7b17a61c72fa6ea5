pub mod Handle
pub mod Images
pub mod Lends
pub mod Life
pub mod Settling
pub mod Statuses
pub mod Outcome
