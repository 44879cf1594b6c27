-- The laws of the definitions in specs/.
-- a number read digit by digit
pub mod DigitsLaws
-- the fields of a line, read in turn
pub mod FieldsLaws
-- a line as a case or its refusal
pub mod ReadingLaws
-- the laws that specs/Laws states
pub mod Laws
-- what lines of the boundary sections are read as
pub mod Boundary
-- a line with another demand in its tenth field
pub mod DemandLaws
