-- Laws of the definitions in specs/, and what follows from them.
-- what follows from `specs/Check.antt`
pub mod Check
-- what the code of the frame needs of the definitions
pub mod FrameCode
-- what the code of a run's check needs of the definitions
pub mod RunCode
