-- What follows from the definitions of `specs/Exactly.antt`.
pub mod Quick
