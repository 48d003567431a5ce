-- What a fold writes, byte for byte, its answer for every input, and that nothing read changes.
pub mod Fold
