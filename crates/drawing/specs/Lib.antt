pub mod Boxes
pub mod Layouts
pub mod Pages
