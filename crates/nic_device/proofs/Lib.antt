pub use Rattle.register_file.proofs.RegTable
pub use Rattle.rx_ring.proofs.DmaArena
pub use Rattle.rx_ring.proofs.DmaRing
pub use Rattle.rx_ring.proofs as RxRing
pub use Rattle.tx_ring.proofs as TxRing
pub use Rattle.register_file.proofs.VfMap
pub use Rattle.register_file.proofs.IntrUnit
pub use Rattle.eeprom_image.proofs as EepromImage
pub use Rattle.register_file.proofs as RegisterFile
pub use Rattle.register_laws.proofs as RegisterLaws
pub use Rattle.rx_filter.proofs as RxFilter
pub mod Accessing
pub mod Answering
pub mod AtRest
pub mod Arriving
pub mod BlockCopies
pub mod Blocks
pub mod Cases
pub mod Coming
pub mod Fetched
pub mod Fetches
pub mod Functions
pub mod Hashes
pub mod Keeping
pub mod KeptBlocks
pub mod Leads
pub mod Leaving
pub mod Lists
pub mod Memory
pub mod Pieces
pub mod PoolReset
pub mod QueueCases
pub mod Queued
pub mod Raising
pub mod Ranges
pub mod Receiving
pub mod Returning
pub mod Sending
pub mod SidesOn
pub mod Staging
pub mod Steps
pub mod SwitchedSides
pub mod Targets
pub mod Trimmed
pub mod Triples
