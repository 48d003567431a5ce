-- The call page, for every tray, index, cursor and room.
-- what its functions promise each other, and what they need of the answer
pub mod Code
