pub mod Recency
pub mod Uses
pub mod Log
pub mod Marks
pub mod Marked
pub mod Laws
