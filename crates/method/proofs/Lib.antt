-- The laws of the definitions in specs/, a file for each.
pub mod RefusalLaws
pub mod CheckedLaws
pub mod FlowLaws
pub mod Laws
pub mod Boundary
