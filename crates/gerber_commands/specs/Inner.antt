pub mod Parameters
pub mod Runs
