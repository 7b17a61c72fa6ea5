pub use Rattle.register_file.specs.RegTable
pub use Rattle.rx_ring.specs.DmaArena
pub use Rattle.rx_ring.specs.DmaRing
pub use Rattle.rx_ring.specs as RxRing
pub use Rattle.tx_ring.specs as TxRing
pub use Rattle.register_file.specs.VfMap
pub use Rattle.register_file.specs.RssHash
pub use Rattle.register_file.specs.IntrUnit
pub use Rattle.eeprom_image.specs as EepromImage
pub use Rattle.register_file.specs as RegisterFile
pub use Rattle.register_laws.specs as RegisterLaws
pub use Rattle.rx_filter.specs as RxFilter
pub mod Named
pub mod PoolReset
pub mod Access
pub mod Answering
pub mod Arrival
pub mod Blocks
pub mod Bus
pub mod Config
pub mod Eeprom
pub mod Footprint
pub mod NotesHolding
pub mod Interrupt
pub mod Kept
pub mod Lending
pub mod Link
pub mod Outcome
pub mod Receive
pub mod Resting
pub mod Restoring
pub mod Run
pub mod Sound
pub mod State
pub mod Step
pub mod Switching
pub mod Transmit
pub mod NotesTrimming
