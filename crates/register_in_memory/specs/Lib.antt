pub mod InMemory
pub mod Within
