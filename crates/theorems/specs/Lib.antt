-- What follows from the answers of the calls.
-- when each number is given
pub mod Exactly
-- number and figure of each answer
pub mod Told
-- a cursor as 66 numbers
pub mod Cursors
-- numbers that are wider than the library's own
pub mod Wide
-- the small trays: the table as data, and one statement over it
pub mod Small
-- what a reader sees through an accepted index, by key and value alone
pub mod Read
-- pages from a key on, as calls
pub mod Paged
-- the same before and after a chain of folds of which none is refused (demand 3)
pub mod Unchanged
