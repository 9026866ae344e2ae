pub mod FrameLaws
pub mod ListLaws
pub mod PlaceLaws
pub mod ZeroLaws
pub mod LayoutLaws
