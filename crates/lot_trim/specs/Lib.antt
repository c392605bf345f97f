pub mod Cut
pub mod Kept
pub mod Run
pub mod Trim
