pub mod ImportRows
pub mod Import
pub mod TableRows
pub mod TextWriter
pub mod Within
