pub mod Agreement
pub mod Fields
pub mod Places
pub mod Slots
