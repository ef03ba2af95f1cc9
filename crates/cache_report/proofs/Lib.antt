pub mod RateLemmas
pub mod Rows
