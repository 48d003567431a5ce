-- The program `drawer` (docs/DRAWER.md, "The program `drawer`"): its lines, and its input.
-- what a buffer is filled with
pub mod Filled
-- what a line does and says
pub mod Line
-- a turn in the drawer
pub mod Turns
-- what follows of every line
pub mod Theorems
-- worked cases
pub mod Cases
-- an input, byte by byte, and what follows
pub mod Feed
