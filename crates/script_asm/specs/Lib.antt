pub use Rattle.machine.specs as Machines
pub use Rattle.program.specs as Programs
pub mod End
pub mod Fault
pub mod Prelude
pub mod Target
pub mod Operation
pub mod Statement
pub mod Places
pub mod Outline
pub mod Resolved
pub mod Script
pub mod Printing
pub mod Line
pub mod Disassembly
pub mod ReadBack
pub mod Laws
