-- A day of demands.
-- the answers, refusal 18, and what the lent answers hold afterwards
pub mod Days
-- the refusal with a demand, by the one with none
pub mod DayCase
-- what a reader of the lent answers is promised
pub mod Promises
-- instances of the promises
pub mod Instances
