-- What holds of the program `drawer` between two reads, and what a piece of its input does.
-- room for one more answer line, and a piece, taken whole
pub mod Serves
