pub use Rattle.dma_arena.proofs as DmaArena
pub mod Strings
pub mod Instructions
pub mod Pieces
pub mod Sound
pub mod ReadStrings
pub mod Meanings
pub mod Spelled
pub mod Sizes
pub mod Back
pub mod Meant
pub mod ReadBack
pub mod Faults
