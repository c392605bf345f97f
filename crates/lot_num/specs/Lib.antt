pub mod Angle
pub mod Digits
pub mod Easing
pub mod Least
pub mod Root
pub mod Round
