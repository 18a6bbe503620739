pub mod Layers
pub mod Kept
pub mod PadLaws
pub mod Holding
