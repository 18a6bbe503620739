pub mod Common
pub mod MarkerLemmas
pub mod NumberLemmas
pub mod RowLemmas
