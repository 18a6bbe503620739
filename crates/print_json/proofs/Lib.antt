pub mod Common
pub mod Numerals
pub mod Escapes
pub mod Digits
pub mod ReadBack
pub mod Texts
pub mod Lists
pub mod Depths
