-- The laws of the definitions in specs/, the promises proved, and instances of them.
-- every whole combination within the ends, and some
pub mod CombinationLaws
-- refusals 22 and 7 to 9 of the ends
pub mod RangeLaws
-- what refuses a forecast, and what an accepted one says of every combination
pub mod ForecastLaws
-- the letters at the two ends
pub mod EndsLaws
-- the promises of specs/Promises but the last
pub mod PromiseLaws
-- the last: exactly when each number refuses
pub mod RefusedExactly
-- instances that are worked out with no law
pub mod Computed
-- instances shown by the promises
pub mod Instances
