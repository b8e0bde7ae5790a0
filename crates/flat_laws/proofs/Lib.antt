pub mod DistinctKeys
pub mod DistinctPaths
pub mod DistinctPins
pub mod DrivenNets
pub mod FlatExamples
pub mod OneDesign
pub mod OneSource
