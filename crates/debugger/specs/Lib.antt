pub mod Breakpoints
pub mod Session
pub mod Running
pub mod Commands
pub mod Laws
pub mod Snapshots
