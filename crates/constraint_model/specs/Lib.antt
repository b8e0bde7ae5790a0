pub mod ClockWaves
pub mod ExclusivePairs
pub mod KeptCommands
pub mod ListOrder
pub mod ModeLines
pub mod RunLimits
pub mod WellFormedMode
