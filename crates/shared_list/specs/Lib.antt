pub mod Users
pub mod Log
pub mod Stamps
pub mod Windows
pub mod Shared
