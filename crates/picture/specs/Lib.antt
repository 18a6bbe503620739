pub mod Elements
pub mod Copper
pub mod Escapes
pub mod Outlines
pub mod RoundedPads
pub mod Panels
pub mod Scenes
