-- What follows from the definitions of `specs/Rising.antt`.
pub mod Inserted
pub mod Kept
pub mod Laws
