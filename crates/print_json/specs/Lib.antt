pub mod Inner
pub mod Values
pub mod Packages
pub mod Certificates
pub mod ReadCertificates
