pub mod Arenas
pub mod Commands
pub mod Objects
pub mod Steps
