-- What is printed for lines.
-- answers as text
pub mod Texts
-- what `los` prints
pub mod Output
