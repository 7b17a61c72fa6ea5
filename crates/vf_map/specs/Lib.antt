pub mod Pools
pub mod Owner
pub mod Map
pub mod Parts
pub mod Laws
