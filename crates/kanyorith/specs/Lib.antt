-- What the public calls promise, and what follows from it.
-- the theorems: the file to open first
pub mod Theorems
-- a promise for each call
pub mod Promises
-- reading through an accepted index
pub mod Reads
-- folding, before and after
pub mod Folds
-- the cursors that calls hand back
pub mod Handed
-- what page and sheet leave
pub mod Left
-- what holds along any walk
pub mod Walks
-- each way out of a call, as its promise
pub mod Code
