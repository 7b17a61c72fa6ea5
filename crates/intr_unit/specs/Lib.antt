pub mod BitSet
pub mod Group
pub mod Interrupts
pub mod Accesses
pub mod Laws
