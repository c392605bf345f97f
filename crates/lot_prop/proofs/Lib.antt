mod LeastSteps
mod InForceAt
mod Timeline
mod Founds
pub mod Present
