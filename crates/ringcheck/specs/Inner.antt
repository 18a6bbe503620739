pub mod Certificates
pub mod Digests
pub mod Exits
pub mod Halting
pub mod Jobs
pub mod Loading
pub mod Outlines
