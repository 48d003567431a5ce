-- What follows from the definitions of `specs/Pack.antt`.
mod Cases
pub mod Groups
pub mod Laws
