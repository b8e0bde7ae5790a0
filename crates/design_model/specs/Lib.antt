pub mod DesignPins
pub mod LibraryArcs
pub mod UsableLibrary
pub mod WellFormedDesign
