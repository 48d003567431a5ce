-- What follows from the definitions of `specs/Build.antt`.
pub mod Accepted
pub mod Answers
pub mod Bytes
pub mod Laws
pub mod Read
pub mod Theorems
