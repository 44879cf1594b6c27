-- The laws of the definitions in specs/, a file for each; of tests and choices; and lists made of rows.
pub mod BoolLaws
pub mod DivisionLaws
pub mod FractionLaws
pub mod SearchLaws
pub mod HalvingLaws
pub mod TableLaws
pub mod RowsLaws
