pub mod Bits
pub mod Ring
pub mod Descriptor
pub mod Driver
pub mod Receive
pub mod Transmit
pub mod Laws
