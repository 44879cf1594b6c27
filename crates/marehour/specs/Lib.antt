-- The calls that a host in C makes.
-- what they hand back, and what the lent memory then holds
pub mod Calls
-- laws of the calls
pub mod Laws
-- the shape of the method, as a host meets it
pub mod Shape
-- figures of all layers, one list
pub mod Boundary
-- what the call that counts the tried demands hands back
pub mod Tries
