pub mod States
pub mod Transitions
