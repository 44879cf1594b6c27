-- A surveyed speed.
-- the speed of a survey, or its refusal
pub mod Survey
-- what the code's helpers need and hand back
pub mod Units
-- laws of the surveyed speed
pub mod Laws
-- figures of it
pub mod Boundary
