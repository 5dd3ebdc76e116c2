pub mod Stored
pub mod OpeningChecks
pub mod CheckedTables
pub mod CheckedRows
pub mod Within
