pub mod Columns
pub mod Seen
pub mod LatestUse
pub mod Kept
pub mod Touching
pub mod Adding
pub mod Shortened
pub mod SeenUses
