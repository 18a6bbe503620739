pub mod Common
pub mod FirstPlaces
pub mod IdlePlaces
pub mod RecordLemmas
pub mod Matches
pub mod Quoted
pub mod Refusals
