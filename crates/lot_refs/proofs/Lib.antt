pub mod Chains
pub mod DrawnWithin
pub mod Faultless
pub mod FirstFaults
pub mod Named
