-- Bytes and numbers as text.
-- text as bytes
pub mod Bytes
-- bytes parted at a byte
pub mod Parts
-- numbers in decimal
pub mod Decimal
-- text, or numbers as they are, in a lent buffer
pub mod Buffer
-- an input answered line by line
pub mod Stream
-- the bytes of an input that are held
pub mod Held
-- what a program has appended to its output
pub mod Answering
-- an input in pieces, and the theorem
pub mod Runs
