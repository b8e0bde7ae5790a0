pub mod IdentityExamples
pub mod KeyLineExamples
pub mod SameRequirements
