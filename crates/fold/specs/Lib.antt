-- The call fold, for every tray, every pair of runs and every room.
-- what the code needs of its answer
pub mod Answers
