-- Whether a cursor belongs to an index, for every tray, index and cursor.
-- whether a cursor belongs, as the code computes it
pub mod Standing
-- what the calls need of the test
pub mod Tested
