pub mod BoolLemmas
pub mod ListLemmas
pub mod TriangleInequalities
pub mod LookbackLemmas
pub mod ResultLemmas
pub mod LengthLemmas
pub mod DigitLemmas
pub mod TrailingZeros
pub mod SpellingsLemmas
pub mod ZeroFillingLemmas
pub mod ReadPrefix
mod NumberReasons
pub mod Spelled
pub mod SplitLemmas
