-- The laws of the definitions in specs/.
-- instances that are worked out with no law
pub mod Computed
-- hourly demand, and the daily traffic that a service volume lets pass
pub mod WithinLaws
-- the answer by its refusals, and the daily service volumes by the engine's
pub mod DailyLaws
-- what a reader of an answer is promised
pub mod PromiseLaws
-- instances shown by the promises
pub mod Instances
