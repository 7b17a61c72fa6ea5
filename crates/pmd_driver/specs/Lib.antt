pub use Rattle.pmd_access.specs as PmdAccess
pub use Rattle.pmd_rx.specs as PmdRx
pub use Rattle.pmd_tx.specs as PmdTx
pub use Rattle.pmd_access.specs.DeviceLock as DeviceLock
pub use Rattle.pmd_access.specs.NicDevice
pub mod Apart
pub mod Arriving
pub mod Blocks
pub mod Bursts
pub mod Counts
pub mod Driver
pub mod DriverCalls
pub mod Ends
pub mod Faults
pub mod Filled
pub mod Halted
pub mod Halves
pub mod Leaving
pub mod Life
pub mod Queueing
pub mod Rising
pub mod Running
pub mod Runs
pub mod Started
pub mod Starting
pub mod Stopping
