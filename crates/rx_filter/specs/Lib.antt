pub mod Fields
pub mod Address
pub mod Laws
pub mod Pools
pub mod Sorting
