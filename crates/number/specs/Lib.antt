-- What the bytes of a slice spell as numbers, highest byte first, and the order of keys. Everything above stands on it.
pub mod Big
