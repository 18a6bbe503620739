pub mod BestPads
pub mod NearestHoles
pub mod Meets
pub mod Rows
pub mod Zones
pub mod DepthLaws
pub mod Lacking
