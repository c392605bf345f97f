mod FaultlessFeatures
mod FaultlessItems
pub mod FaultlessTables
mod GoodItems
mod Levels
mod Only
mod OnlyItems
mod OnlyShapes
mod OnlyStyles
mod OnlyTracks
mod OnlyTransform
mod Stops
pub mod WellFormed
