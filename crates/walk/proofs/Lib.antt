-- Laws of the definitions in specs/, and what follows from them.
-- what follows from `specs/Reads.antt`
pub mod ReadsLaws
