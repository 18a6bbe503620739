pub mod Causes
pub mod Drilling
pub mod Inner
pub mod Texts
pub mod MeasureLines
