-- The laws of the definitions in specs/.
-- answers as text
pub mod TextsLaws
-- what `los` prints
pub mod OutputLaws
