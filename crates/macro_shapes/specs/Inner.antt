pub mod Reading
pub mod Pieces
pub mod Borders
pub mod Bytes
pub mod Steps
