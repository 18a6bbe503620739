pub mod FoundPlaces
pub mod Marks
pub mod ClashingPairs
pub mod Regions
pub mod Forms
pub mod SpotLists
pub mod Trees
