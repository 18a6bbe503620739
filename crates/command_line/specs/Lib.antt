pub mod ProgramArgs
pub mod RefusalTexts
pub mod Inner
