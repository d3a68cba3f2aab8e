pub mod Changes
pub mod Inserting
pub mod Stripping
pub mod Edits
pub mod Parts
pub mod InsertTexts
