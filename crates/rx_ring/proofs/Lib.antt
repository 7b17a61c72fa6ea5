pub use Rattle.dma_arena.proofs as DmaArena
pub use Rattle.dma_ring.proofs as DmaRing
pub mod Fills
pub mod Frames
pub mod Tests
pub mod Written
