pub mod DeltaLaws
pub mod SymbolLaws
pub mod CodeLaws
pub mod PaddingLaws
pub mod FaultLaws
pub mod EndLaws
pub mod Narrower
pub mod KeepLaws
