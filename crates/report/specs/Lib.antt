pub mod Acceptances
pub mod Causes
pub mod Inner
pub mod UnitMistakes
