pub mod Frame
pub mod Full
pub mod FullTable
pub mod Piece
pub mod Shape
