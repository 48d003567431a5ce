-- What the quick calls answer for every tray, index, cursor, key, prefix and room: a module a call. What check tray, check index, build and fold
-- answer stands with their subjects, in `tray`, `index`, `build_spec` and `fold_spec`.
-- what they share
pub mod Quick
pub mod Get
pub mod Seek
pub mod Next
pub mod Page
pub mod Sheet
-- what their code needs of the definitions
pub mod Code
