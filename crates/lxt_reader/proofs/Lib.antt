pub mod JudgeWays
pub mod AskWays
pub mod NameWays
pub mod ChangeWays
pub mod ValueWays
pub mod TextWays
