-- Laws of the definitions in specs/, and what follows from them.
-- what follows from `specs/Build.antt`
pub mod Build
