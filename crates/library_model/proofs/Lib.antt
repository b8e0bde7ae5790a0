pub mod LibertyDecides
