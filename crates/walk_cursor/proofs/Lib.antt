-- Laws used in proofs.
-- a stretch of a list
pub mod Part
