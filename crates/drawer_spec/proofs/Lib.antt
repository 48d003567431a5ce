-- Laws of the definitions in specs/.
-- the end of an input
pub mod Finishes
