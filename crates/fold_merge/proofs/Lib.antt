-- Laws by which the check proves a function without an answer.
-- a record noted, or only counted
pub mod Noting
