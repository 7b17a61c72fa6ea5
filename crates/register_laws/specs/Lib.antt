pub mod Agreement
pub mod Footprint
pub mod Laws
pub mod PoolReset
pub mod Prelude
pub mod Sides
pub mod Sound
pub mod SoundWords
