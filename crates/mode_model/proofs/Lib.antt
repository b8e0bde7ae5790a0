pub mod ModeExamples
