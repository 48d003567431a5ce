-- What the bytes of a tray say: the frame, the records of a run, the check's answer, and the list of runs that a sound tray means.
-- header, counts, and where each run starts
pub mod Frame
-- the records of one run, and which one is wrong first
pub mod Run
-- check tray's answer, and soundness in the rules' words
pub mod Check
-- the runs that a tray means, and the bytes of a list of runs
pub mod Meaning
-- a tray for worked cases
pub mod Sample
