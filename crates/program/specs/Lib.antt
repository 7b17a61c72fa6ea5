pub use Rattle.dma_arena.specs as DmaArena
pub use Rattle.dma_ring.specs as DmaRing
pub use Rattle.intr_unit.specs as IntrUnit
pub mod Listing
pub mod Mapped
pub mod Encoding
pub mod Bytes
pub mod Meaning
pub mod Gives
pub mod Object
pub mod Laws
