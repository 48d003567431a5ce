-- Laws that the proofs of several functions share.
-- what a slice of bytes is known to hold
pub mod Known
-- what stores of a number's bytes leave
pub mod Stored
-- what follows from `specs/Big.antt`
pub mod Big
