-- The laws of the definitions in specs/, a file for each; those of the speed in F are a file for each kind.
pub mod PowerTable
pub mod PowerLaws
pub mod KindLaws
pub mod CurveLaws
pub mod WeatherLaws
pub mod SpeedLaws
pub mod FreewayLaws
pub mod MultilaneLaws
pub mod TermsLaws
pub mod ServiceLaws
pub mod Laws
