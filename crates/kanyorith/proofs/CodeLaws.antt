-- What follows from the definitions of `specs/Code.antt`.
pub mod Narrow
