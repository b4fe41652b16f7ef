-- what a finding looks like
pub mod Findings
