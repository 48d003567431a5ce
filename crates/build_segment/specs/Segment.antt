-- What the code needs: how what was taken fills a segment, and the segments.
pub mod Filled
pub mod Given
pub mod Loops
pub mod Packed
pub mod Segments
