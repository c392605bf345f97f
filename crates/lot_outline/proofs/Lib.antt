mod Backwards
mod Corners
mod Leaves
mod Neighbours
pub mod Present
