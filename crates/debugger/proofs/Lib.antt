pub mod Counted
pub mod Ran
pub mod Back
pub mod Early
pub mod Ends
pub mod Positions
