pub mod ShownRows
pub mod EachRow
