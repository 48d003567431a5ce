-- What the calls share.
-- the tray and the index that were opened
pub mod Asked
