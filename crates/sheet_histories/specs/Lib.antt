-- The changes of an accepted sheet are a history, and the history statement holds for it.
pub mod SheetHistory
