pub mod AnswerLemmas
pub mod CountLemmas
pub mod FirstLemmas
pub mod LineLemmas
