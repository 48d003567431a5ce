-- Laws of the definitions in specs/, and what follows from them.
-- what follows from `specs/Exactly.antt`
pub mod Exactly
