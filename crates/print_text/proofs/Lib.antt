pub mod Common
pub mod SmallestLemmas
pub mod Showing
pub mod RunLemmas
