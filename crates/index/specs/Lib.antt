-- What an index is, when it follows the published rules for a tray, and how check index finds out.
-- where anchor, offsets and selectors lie, and the frame
pub mod Layout
-- the five rules of a right segment, and what is accepted
pub mod Rules
-- one pass over the selectors: the arithmetic of the check
pub mod Scan
-- check index's answer, and the table's lines for it
pub mod Check
-- an index for worked cases
pub mod Sample
