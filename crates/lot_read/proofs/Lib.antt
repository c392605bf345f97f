pub mod Faults
mod FirstCome
pub mod Items
mod Keyframes
mod LastPairs
mod Lengths
mod MarkedNames
mod SeenNames
pub mod Sound
pub mod SoundRows
pub mod SoundTransform
pub mod SoundValues
