pub mod Drawn
pub mod Linked
pub mod Links
pub mod Parents
pub mod RefFaults
