pub mod FaultText
pub mod Runs
