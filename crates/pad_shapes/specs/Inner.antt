pub mod ShapeLaws
pub mod Identities
pub mod Means
pub mod Fan
pub mod RoundedLaws
pub mod RoundedSets
pub mod HoldingLaws
pub mod WidePadLaws
