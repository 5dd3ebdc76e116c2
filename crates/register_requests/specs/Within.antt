-- What functions within the crate say of one another: no public contract stands on it.
pub mod Text
pub mod Subject
pub mod FieldText
pub mod Fields
