-- How the records of a segment are taken and written, and what the functions of the builder promise each other.
pub mod Code
