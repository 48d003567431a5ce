-- The small trays: the table as data, and one statement over it (docs/RULES.md, "Small trays to prove").
-- the rows
pub mod Rows
-- what the library's definitions give for a row's tray
pub mod Calls
-- every row holds
pub mod Table
