mod ActingLemmas
mod ServingLemmas
mod ServedOne
pub mod Served
