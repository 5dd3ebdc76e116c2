pub mod Watched
pub mod Lines
pub mod Within
