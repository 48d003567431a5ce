-- What follows from the definitions of `specs/View.antt`.
mod Cases
pub mod Entries
pub mod Laws
pub mod Old
pub mod Visible
