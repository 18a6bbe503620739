pub mod Common
pub mod EscapesLemmas
pub mod Gathered
pub mod PadOrderLemmas
pub mod StrictLemmas
