pub mod Moment
pub mod Calendar
pub mod MomentText
pub mod Within
