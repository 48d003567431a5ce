-- What follows from the definitions of `specs/Big.antt`.
pub mod Laws
pub mod Writes
pub mod Order
mod Cases
pub mod Copies
