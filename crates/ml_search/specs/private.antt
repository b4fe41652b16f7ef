-- what checks have come to
pub mod Checked
