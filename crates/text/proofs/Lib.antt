-- The laws of the definitions in specs/.
-- bytes parted at a byte
pub mod PartsLaws
-- the digits of a number
pub mod DigitLaws
-- text and numbers in a buffer
pub mod BufferLaws
-- numbers and rows written into a buffer
pub mod RowLaws
-- an input answered line by line, a turn at a time
pub mod StreamLaws
-- lines answered one after the other
pub mod BlockLaws
-- bytes carried over
pub mod CarryLaws
-- what is held stands for what was read
pub mod HeldLaws
-- what a program has appended
pub mod AnsweringLaws
-- runs over an input in pieces, and the theorem
pub mod RunLaws
