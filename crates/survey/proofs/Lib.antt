-- The laws of the definitions in specs/, and the figures shown.
-- the answer to a survey
pub mod SurveyLaws
-- a float's exact value by its bits
pub mod FloatLaws
-- the laws of specs/Laws
pub mod Laws
-- the boundary sections
pub mod Boundary
