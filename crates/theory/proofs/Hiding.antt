-- What follows from the definitions of `specs/Hiding.antt`.
pub mod Laws
