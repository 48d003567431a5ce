-- The index that is built for a tray, byte for byte, build's answer for every input, and that what it builds is accepted.
pub mod Build
