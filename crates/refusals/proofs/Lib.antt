-- The laws of the definitions in specs/, a file for each.
pub mod RefusalLaws
pub mod NumberLaws
pub mod FactLaws
