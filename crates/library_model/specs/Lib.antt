pub mod LibertyArcs
pub mod LibertyCells
pub mod LibertyFaults
pub mod LibertyGrammar
pub mod LibertyStatements
pub mod LibertyText
pub mod LibertyTiming
pub mod LibertyTokens
