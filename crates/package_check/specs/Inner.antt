pub mod Leftovers
