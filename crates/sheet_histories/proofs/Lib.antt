pub mod Histories
pub mod SmallSheetHistory
