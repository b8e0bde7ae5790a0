pub mod BrokenTexts
pub mod ByteFacts
pub mod EachItem
pub mod ListFacts
pub mod Members
pub mod Outcomes
pub mod RowFacts
pub mod SameTexts
