pub mod Faults
pub mod Ends
pub mod Threads
pub mod Machines
pub mod Runs
pub mod Waits
