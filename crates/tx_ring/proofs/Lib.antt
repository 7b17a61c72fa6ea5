pub mod Fetches
pub mod Packets
pub mod Reported
pub mod Reports
pub mod Staging
pub mod Tests
