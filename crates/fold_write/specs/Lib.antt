-- A tray written anew with some of its runs made one.
-- what its functions promise each other
pub mod Write
