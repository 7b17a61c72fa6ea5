pub mod Steps
pub mod Places
pub mod Running
pub mod Runs
pub mod Jumps
pub mod Words
