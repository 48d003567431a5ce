-- Going on from a cursor to the next visible record, for every tray, index and cursor.
-- past the current selector, and on
pub mod Next
-- what the code needs of the answer
pub mod Code
