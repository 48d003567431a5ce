-- The call sheet, for every tray, index, prefix and room.
-- the bounds of a prefix, as the code makes them
pub mod Bounds
-- the sheet written once it is counted, and what the code needs of the answer
pub mod Write
