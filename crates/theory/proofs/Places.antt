-- What follows from the definitions of `specs/Places.antt`.
mod Cases
pub mod Heads
pub mod Laws
pub mod Passed
pub mod Rest
pub mod Steps
