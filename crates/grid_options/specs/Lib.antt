pub mod Grid
pub mod Own
pub mod Refusals
pub mod Written
pub mod Points
