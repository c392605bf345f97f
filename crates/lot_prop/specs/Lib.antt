pub mod Eased
pub mod Found
pub mod InForce
pub mod LeastStep
pub mod Slots
pub mod Spatial
pub mod Transform
pub mod Value
