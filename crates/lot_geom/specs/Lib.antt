pub mod Along
pub mod Chords
pub mod Cubic
pub mod Lengths
pub mod Matrix
pub mod Offset
pub mod Path
