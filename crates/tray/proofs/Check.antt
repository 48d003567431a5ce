-- What follows from the definitions of `specs/Check.antt`.
pub mod Laws
pub mod Theorems
