-- What follows from the definitions of `specs/Reads.antt`: pages and sheets.
pub mod Page
pub mod Pages
pub mod Sheet
pub mod Prefix
