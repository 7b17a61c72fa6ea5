pub use Rattle.pmd_driver.specs.DeviceLock as DeviceLock
pub use Rattle.pmd_driver.specs.PmdAccess as PmdAccess
pub use Rattle.pmd_driver.specs as PmdDriver
pub mod AtFirst
pub mod Before
pub mod Beginning
pub mod Coming
pub mod Ended
pub mod Ends
pub mod Feeding
pub mod Fitting
pub mod Judged
pub mod Kept
pub mod Lending
pub mod Lived
pub mod Order
pub mod Overlap
pub mod Points
pub mod Queues
pub mod Quiet
pub mod Refusing
pub mod TaskCells
pub mod Standing
pub mod Starts
pub mod Reported
