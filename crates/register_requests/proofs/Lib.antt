pub mod Subjects
pub mod NameTexts
pub mod TextLengths
pub mod Texts
pub mod FieldTexts
pub mod Commands
pub mod Lines
