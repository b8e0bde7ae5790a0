mod BranchFacts
mod CommandRuns
mod Frames
mod IndexFacts
pub mod KeptRuns
mod ListRuns
mod NamedRuns
mod NumberFacts
mod OneParse
pub mod OneRun
pub mod OneSteps
mod OneTree
mod OperatorFacts
mod ParseFacts
mod ReadTrees
pub mod RunStepFacts
mod StepRuns
pub mod StepsFacts
mod TokenFacts
mod TreesRead
mod VariableFacts
mod WordRuns
