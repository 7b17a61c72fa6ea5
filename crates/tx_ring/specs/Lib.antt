pub mod Frame
pub mod Report
pub mod Fetch
pub mod Laws
