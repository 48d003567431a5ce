-- A page from a cursor on, as the code goes through it.
-- a page a segment at a time
pub mod Segments
