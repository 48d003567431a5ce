-- Laws of the definitions in specs/, and what follows from them.
-- what follows from `specs/Code.antt`
pub mod CodeLaws
