pub use Rattle.pmd_access.proofs as PmdAccess
pub use Rattle.pmd_rx.proofs as PmdRx
pub use Rattle.pmd_tx.proofs as PmdTx
pub use Rattle.pmd_access.proofs.DeviceLock as DeviceLock
pub use Rattle.pmd_access.proofs.NicDevice
pub mod Apart
pub mod Blocks
pub mod Both
pub mod Bringing
pub mod Bursting
pub mod Counted
pub mod Driving
pub mod FailedStop
pub mod Few
pub mod Filling
pub mod Finding
pub mod First
pub mod Followed
pub mod HaltedBlocks
pub mod HaltedBoth
pub mod Handing
pub mod Homecoming
pub mod Kept
pub mod Late
pub mod Leaving
pub mod Lending
pub mod Living
pub mod Meeting
pub mod Placed
pub mod Posting
pub mod Queueing
pub mod Receiving
pub mod Rising
pub mod Sending
pub mod Sent
pub mod SentCounted
pub mod Several
pub mod Stages
pub mod Starting
pub mod Whole
