-- What functions within the crate, and those of the crates that `register_store` gives out, say of one another: no
-- contract above stands on it.
pub mod Creation
pub mod Migration
