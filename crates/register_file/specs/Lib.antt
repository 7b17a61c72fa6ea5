pub use Rattle.reg_table.specs as RegTable
pub use Rattle.dma_ring.specs as DmaRing
pub use Rattle.vf_map.specs as VfMap
pub use Rattle.rss_hash.specs as RssHash
pub use Rattle.intr_unit.specs as IntrUnit
pub mod Access
pub mod AllGroups
pub mod Behaviour
pub mod Bits
pub mod Cells
pub mod Columns
pub mod Counters
pub mod Eeprom
pub mod Effects
pub mod Footprint
pub mod Groups
pub mod Layout
pub mod Mailbox
pub mod Owner
pub mod PoolReset
pub mod Pools
pub mod Queue
pub mod Registers
pub mod Settings
pub mod Storing
pub mod Words
