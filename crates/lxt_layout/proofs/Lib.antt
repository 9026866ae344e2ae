pub mod LayoutLaws
pub mod PlacedLaws
pub mod WholeLaws
