pub mod Card
pub mod Kept
