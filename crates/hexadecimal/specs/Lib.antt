-- Lower-case hexadecimal.
-- digits and bytes
pub mod Hex
