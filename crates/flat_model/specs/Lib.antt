pub mod Connections
pub mod FlatDesign
pub mod FlatFaults
pub mod FlatNets
pub mod Flattening
pub mod Instances
