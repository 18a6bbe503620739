pub mod CauseParts
pub mod RescaledCounts
