pub mod Answered
pub mod ReadLoop
pub mod WriteLoop
pub mod Evaluating
pub mod Judging
pub mod Running
pub mod Requests
pub mod Walking
