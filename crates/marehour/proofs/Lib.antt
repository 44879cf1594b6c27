-- The laws of the definitions in specs/, and the boundary sections shown.
pub mod CallLaws
pub mod Laws
pub mod Shape
pub mod Boundary
pub mod TriesLaws
