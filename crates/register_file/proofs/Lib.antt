pub use Rattle.reg_table.proofs as RegTable
pub use Rattle.vf_map.proofs as VfMap
pub use Rattle.rss_hash.proofs as RssHash
pub use Rattle.intr_unit.proofs as IntrUnit
pub mod CellRows
pub mod AmongCells
pub mod Columns
pub mod InPlace
pub mod Own
pub mod Raising
pub mod Repeated
pub mod SingleBits
pub mod ResetWords
pub mod Storing
