-- The first pass of a sheet, for every tray, index, cursor and bound, and that its second pass is a page.
-- how many records sheet lists
pub mod Count
-- a page with room for just these writes them
pub mod Second
