pub mod Found
pub mod Closing
pub mod Network
