pub mod Arenas
pub mod Blocks
mod Brought
pub mod Bus
pub mod Bytes
mod Chunks
mod Counts
pub mod Cuts
mod Emptied
mod Filled
pub mod Inside
pub mod Joined
pub mod Moves
mod Linked
mod Nodes
mod Numbers
mod RawSteps
pub mod RunLaws
pub mod Owned
pub mod Places
mod Shown
mod Ring
pub mod Runs
pub mod Single
mod Unlinked
