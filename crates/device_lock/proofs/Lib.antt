pub use Rattle.nic_device.proofs as NicDevice
pub mod AtRest
pub mod Closing
pub mod Fresh
pub mod Histories
pub mod MadeCalls
pub mod Places
pub mod Ranges
pub mod Runs
pub mod Sparing
pub mod Stands
pub mod Stepped
pub mod Unpacking
pub mod Walks
pub mod Watching
