pub mod Signs
pub mod Values
pub mod Pieces
pub mod Primitives
pub mod Shapes
pub mod Laws
pub mod Inner
pub mod Macros
