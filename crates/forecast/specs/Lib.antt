-- Forecasts known within ranges.
-- the best and the worst letter within the ends, refusal 22, the answer
pub mod Forecasts
-- the letter at one combination, which the code looks at
pub mod Ends
-- what a reader of an answer is promised
pub mod Promises
-- instances of the promises
pub mod Instances
