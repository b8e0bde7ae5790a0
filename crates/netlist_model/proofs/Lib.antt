pub mod RangeFacts
pub mod VerilogDecides
