pub mod MachineState
pub mod Action
pub mod Machine
pub mod Course
pub mod Processor
pub mod Laws
