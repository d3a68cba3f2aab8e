pub mod FrontLemmas
pub mod InputLemmas
pub mod ReportLemmas
pub mod StreamLemmas
pub mod TableLemmas
pub mod CountLemmas
