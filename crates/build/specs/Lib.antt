-- The call build, for every tray, segment size and room.
-- what the code needs of its answer
pub mod Answers
