pub mod Plotters
pub mod Forgetting
pub mod States
pub mod Turns
pub mod Steps
