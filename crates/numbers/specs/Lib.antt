-- What the layers above count with.
-- division rounded up
pub mod Division
-- exact fractions and their order
pub mod Fraction
-- the greatest and the least number that pass a test
pub mod Search
-- which numbers a search by halving tries
pub mod Halving
-- a test of every entry of a table, and of every number up to an end
pub mod Table
-- lists compared place by place
pub mod Bounds
