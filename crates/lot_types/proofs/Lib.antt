pub mod Elements
pub mod Held
pub mod ThreeLimited
pub mod Present
pub mod Variants
