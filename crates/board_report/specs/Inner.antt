pub mod Tables
pub mod EntriesSoFar
