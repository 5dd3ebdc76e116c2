pub mod DueOrder
pub mod DueRows
pub mod Printable
pub mod CsvRows
pub mod RowWriting
pub mod Padding
