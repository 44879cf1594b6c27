-- The laws of the definitions in specs/.
-- the numbers of a day
pub mod DayLaws
-- the answer with a demand, by the case with none
pub mod DayCaseLaws
-- what a reader of the lent answers is promised
pub mod PromiseLaws
-- instances of the promises
pub mod Instances
