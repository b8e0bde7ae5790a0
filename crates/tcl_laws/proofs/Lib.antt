pub mod BuiltInExamples
pub mod CallExamples
pub mod ListExamples
pub mod PartedWords
pub mod PassedOver
pub mod RunExamples
