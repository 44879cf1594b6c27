-- Whole powers, the step of the table of powers, and the promises, laws, points and cases of specs/ proved.
pub mod WholePowerLaws
pub mod TableStepLaws
pub mod PromiseLaws
pub mod Laws
pub mod Distances
pub mod Instances
