-- documents of decisions
pub mod Documents
