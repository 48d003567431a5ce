-- What follows from the definitions of `specs/Fold.antt`.
pub mod Answers
mod Cases
pub mod Chains
pub mod Laws
pub mod Leaves
pub mod Nothing
