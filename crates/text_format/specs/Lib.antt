pub mod Bytes
pub mod HexData
pub mod Lines
pub mod Name
pub mod Number
pub mod Word
pub mod Words
