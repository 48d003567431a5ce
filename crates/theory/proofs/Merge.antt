-- What follows from the definitions of `specs/Merge.antt`.
mod Cases
pub mod Chains
pub mod Hidden
pub mod Laws
pub mod Nothing
