-- What every listing stands on, for every tray, index, cursor and room.
-- the unmarked records that a segment names, as any walk comes to them, gathered before they are looked at
pub mod Stops
-- what is gathered of a segment, as the code hands it over
pub mod Gathers
-- the turns of a walk, whatever its visitor
pub mod Steps
-- a page as the code hands it over
pub mod Page
-- gathered records written
pub mod Put
-- what a listing walks, by what it is lent
pub mod Listing
