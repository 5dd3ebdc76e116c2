pub mod Selects
pub mod RowByRow
pub mod Each
