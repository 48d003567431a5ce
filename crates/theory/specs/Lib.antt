-- What a tray means, on lists of records: hiding, merging, folding, the sorted view, and packing into segments. No code, no bytes.
-- tests and lists: both cases of a test, members and places, strictly rising lists, and "same members, same list"
pub mod Tests
pub mod Lists
pub mod Rising
pub mod Listed
-- records, and which newer one hides which older one
pub mod Records
pub mod Hiding
-- runs: one over another, all merged, neighbours folded
pub mod Merge
-- the sorted view: all records by key, then run; old and visible
pub mod View
-- how far each run has been read, and what is left of the view
pub mod Places
-- versions of a key together, packed into segments
pub mod Pack
