mod FullTable
pub mod Present
mod Styles
