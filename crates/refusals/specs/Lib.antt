-- Refusals, and figures.
-- a list of refusals, the first that is met, and an answer unless one is
pub mod Refusals
-- the number of each refusal, and an answer or its refusal
pub mod Numbers
-- figures: what the definitions give beside what is printed
pub mod Facts
