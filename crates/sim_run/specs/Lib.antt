pub mod TraceReport
