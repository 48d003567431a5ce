-- Laws of the definitions in specs/, and what follows from them.
-- what follows from `specs/Hiding.antt`
pub mod Hiding
-- what follows from `specs/Listed.antt`
pub mod Listed
-- what follows from `specs/Merge.antt`
pub mod Merge
-- what follows from `specs/Pack.antt`
pub mod Pack
-- what follows from `specs/Places.antt`
pub mod Places
-- what follows from `specs/Rising.antt`
pub mod Rising
-- what follows from `specs/View.antt`
pub mod View
