-- The laws of the definitions in specs/, a file for each, and the table of ramp terms.
pub mod RampTable
pub mod RampLaws
pub mod InterpolationLaws
pub mod AdjustmentLaws
pub mod RefusalLaws
pub mod FreeFlowSpeedLaws
pub mod Laws
pub mod Boundary
