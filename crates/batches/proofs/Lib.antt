pub mod ManySteps
pub mod RunsOfCalls
pub mod RecordsBegin
