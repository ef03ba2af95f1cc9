pub mod States
pub mod Rows
pub mod Holding
pub mod Counted
pub mod Tallies
pub mod Putting
pub mod Stamped
pub mod Serving
