pub mod Adopted
pub mod Empty
