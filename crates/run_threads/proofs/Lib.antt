pub mod Serving
pub mod Merges
pub mod Splitting
pub mod Wholes
pub mod Endings
