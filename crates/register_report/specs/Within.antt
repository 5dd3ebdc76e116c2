-- What functions within the crate say of one another: no public contract stands on it.
pub mod RecordFields
pub mod TableRows
pub mod KeyTable
pub mod TextWriter
