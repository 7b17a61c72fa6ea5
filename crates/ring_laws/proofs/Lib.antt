pub use Rattle.device_laws.proofs as DeviceLaws
pub use Rattle.ring_laws.proofs.Limits as Alone
pub use Rattle.ring_laws.proofs.Blocks as Fetching
pub use Rattle.ring_laws.proofs.Fitting as Begun
pub use Rattle.ring_laws.proofs.Kept as Parts
pub use Rattle.ring_laws.proofs.TransmitLent as Packets
pub mod Addresses
pub mod Beginning
pub mod Blocks
pub mod Deeds
pub mod Ending
pub mod Fitting
pub mod Foreign
pub mod InOrder
pub mod Kept
pub mod Leaving
pub mod Left
pub mod Lent
pub mod Limits
pub mod Off
pub mod Others
pub mod Own
pub mod Playing
pub mod ReceiveLent
pub mod Reports
pub mod Sparing
pub mod Steady
pub mod TransmitLent
pub mod Writes
pub mod Written
