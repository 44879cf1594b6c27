-- Daily traffic.
-- hourly demand, daily service volumes, refusals 20 and 21, the answer
pub mod Daily
-- the greatest daily traffic whose hourly demand is at most a volume
pub mod Within
-- what a reader of an answer is promised
pub mod Promises
-- instances of the promises
pub mod Instances
