-- The laws of the definitions in specs/, a file for each, and the shape of the method proved.
pub mod VolumeLaws
pub mod TriesLaws
pub mod AnswerLaws
pub mod LanesLaws
pub mod PromiseLaws
pub mod Boundary
pub mod SearchOrder
pub mod Instances
pub mod Laws
