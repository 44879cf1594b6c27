-- Lines: what a line says.
-- the fields of a line
pub mod Fields
-- what has been read of a line so far, and what is left of it
pub mod ReadSoFar
-- a line as a case or its refusal
pub mod Reading
-- laws of lines
pub mod Laws
-- what lines of the boundary sections are read as
pub mod Boundary
