pub mod RelationFacts
