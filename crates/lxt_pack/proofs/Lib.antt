pub mod PutLaws
pub mod PartLaws
pub mod SymbolLaws
pub mod PackLaws
pub mod SizeLaws
pub mod ChangeLaws
