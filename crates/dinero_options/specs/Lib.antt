pub mod Options
pub mod Values
pub mod Answer
pub mod Refusals
pub mod TraceRefusals
