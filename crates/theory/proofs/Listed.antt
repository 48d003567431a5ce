-- What follows from the definitions of `specs/Listed.antt`.
pub mod Laws
