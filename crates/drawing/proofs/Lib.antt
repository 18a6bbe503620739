pub mod Common
pub mod BarLemmas
pub mod ExtentLemmas
pub mod PanelLists
