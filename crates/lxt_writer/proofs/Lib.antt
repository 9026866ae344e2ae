pub mod RowLaws
pub mod MeasureLaws
pub mod EntryLaws
pub mod WriteLaws
pub mod PlanLaws
pub mod FileLaws
pub mod AnswerLaws
