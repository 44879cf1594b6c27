-- The speed–flow curve under weather, from a free-flow speed to speed, density and letter, a file for each
-- part.
-- what each kind carries
pub mod Kinds
-- T(i) by whole powers
pub mod Power
-- capacity, breakpoint, the curve at a free-flow speed
pub mod Curves
-- the factors, and the curve under weather
pub mod Weather
-- S as an exact fraction, and as it is shown
pub mod Speed
-- the denominator of w, which the code works out once a curve
pub mod Terms
-- density and letter
pub mod Service
-- the laws of the curve, stated
pub mod Laws
