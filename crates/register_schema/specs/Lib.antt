pub mod Creation
pub mod Migration
pub mod Within
