pub mod Civils
pub mod Dates
pub mod Forward
pub mod Texts
pub mod Numbers
