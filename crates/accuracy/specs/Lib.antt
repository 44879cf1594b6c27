-- How far the shown multilane speed is below the manual's curve.
-- what it is to be at most the manual's curve
pub mod ManualCurve
-- the theorem: within 26 thousandths of mi/h below the curve
pub mod Promises
-- the ends and the shape of the curve, and the step of the table of powers
pub mod Laws
-- points with their distances
pub mod Distances
-- three cases with their answers
pub mod Instances
