-- claims with ranks, and when they are kept
pub mod Claims
