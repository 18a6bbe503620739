pub mod CopyGrids
pub mod MovedPads
pub mod FastOperations
pub mod IsStateAfter
