pub mod FacilityLaws
pub mod GeometryLaws
pub mod NameLaws
