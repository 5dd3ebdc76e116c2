pub mod DueRows
pub mod Record
pub mod Export
pub mod Report
pub mod Within
