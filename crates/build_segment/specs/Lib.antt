-- A segment of an index written.
-- how what was taken fills a segment, and the segments
pub mod Segment
