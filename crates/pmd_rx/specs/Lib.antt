pub mod Acts
pub mod Burst
pub mod Filling
pub mod Keeping
pub mod Plays
pub mod Receive
pub mod Shown
pub mod Wrong
