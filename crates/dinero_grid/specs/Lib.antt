pub mod AskedRows
pub mod GridFaultText
pub mod GridRuns
