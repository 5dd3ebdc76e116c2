pub mod State
pub mod Row
pub mod Reason
pub mod Usage
pub mod Transition
