pub mod Reading
pub mod Findings
pub mod Waiving
pub mod Inner
