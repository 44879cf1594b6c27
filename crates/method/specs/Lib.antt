-- The method from a case to its letter, over the layers below, a file for each part.
-- 10 after 1 to 9 and 19, and what is accepted
pub mod Refusals
-- the curve of a case, and 10 in its place
pub mod Checked
-- the flow rate
pub mod Flow
-- what a case gets, or its refusal
pub mod Assess
-- the laws of the method, stated
pub mod Laws
-- figures that a case alone decides
pub mod Boundary
