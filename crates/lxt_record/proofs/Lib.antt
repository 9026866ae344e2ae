pub mod Lists
pub mod RecordLaws
