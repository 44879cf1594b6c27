-- Roads and cases, free-flow speed, and what refuses a case's fields, a file for each part.
-- roads and cases by their fields, and with some fields changed
pub mod Cases
-- the straight line between two entries of a table's row
pub mod Interpolation
-- what lane width, clearances, median and access take off a base speed
pub mod Adjustments
-- what ramps take off
pub mod RampTerm
-- F, given or estimated
pub mod FreeFlowSpeed
-- 1 to 9 and 19 in their order
pub mod Refusals
-- the laws of free-flow speed and of refusal 19, stated
pub mod Laws
-- figures that a road alone decides
pub mod Boundary
