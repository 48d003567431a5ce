-- What is kept of each run while all runs are merged: its next keys, and which run comes next.
pub mod Heads
