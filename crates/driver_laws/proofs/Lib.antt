pub use Rattle.pmd_driver.proofs.DeviceLock.Histories
pub use Rattle.ring_laws.proofs as RingLaws
pub use Rattle.pmd_driver.proofs as PmdDriver
pub use Rattle.pmd_driver.proofs.DeviceLock as DeviceLock
pub use Rattle.pmd_driver.proofs.NicDevice
pub mod Asked
pub mod AskedAmong
pub mod Beside
pub mod CallKinds
pub mod Closed
pub mod Faultless
pub mod Ground
pub mod HarmlessEvents
pub mod Healthy
pub mod InOrder
pub mod Laid
pub mod Laying
pub mod Lent
pub mod Meeting
pub mod On
pub mod Order
pub mod Parts
pub mod Points
pub mod Prelude
pub mod Reached
pub mod Refusals
pub mod Refused
pub mod Reported
pub mod Sending
pub mod SetUps
pub mod Shifted
pub mod StartPrelude
pub mod StopCalls
pub mod Stopped
pub mod SwitchedOff
pub mod TimedOut
