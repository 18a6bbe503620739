pub mod FastPath
pub mod StateSteps
