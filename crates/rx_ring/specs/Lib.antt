pub use Rattle.dma_arena.specs as DmaArena
pub use Rattle.dma_ring.specs as DmaRing
pub mod Control
pub mod Fill
pub mod Frames
pub mod Item
pub mod Laws
