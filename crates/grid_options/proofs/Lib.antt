pub mod ControlLemmas
pub mod ListLemmas
pub mod ProductLemmas
pub mod ValuesLemmas
pub mod WordsLemmas
