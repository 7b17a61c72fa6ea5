pub use Rattle.nic_device.specs as NicDevice
pub mod Alone
pub mod Calling
pub mod Calls
pub mod Closing
pub mod Events
pub mod Fault
pub mod History
pub mod Kept
pub mod Laws
pub mod Packed
pub mod Pass
pub mod Positions
pub mod Resting
pub mod Stepping
pub mod Reported
pub mod Watching
