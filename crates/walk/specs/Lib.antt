-- What reading through an index answers, for every tray, index, cursor, key, prefix and room; and that through an accepted index this is the
-- full merge.
-- where a walk starts, by the very probes of docs/RULES.md, "Start"
pub mod Start
-- what the code needs of them
pub mod Code
-- the walk over selectors and segments, with a visitor
pub mod Walk
-- cursors, seek, get, next, page and sheet: walks with their visitors
pub mod Reads
-- what the opening of a tray and its index promises
pub mod Opens
