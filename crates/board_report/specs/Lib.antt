pub mod Measures
pub mod Rows
pub mod Inner
pub mod BoardReport
