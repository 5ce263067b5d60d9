pub mod Planning
pub mod Carrying
pub mod Replying
pub mod Decision
pub mod Decides
pub mod RunDecision
pub mod Told
pub mod ToldClasses
mod CheckedAs
mod TypedRuns
mod Headlines
mod Once
mod Constants
mod Listed
mod Counting
mod Transparent
mod Blocks
mod Remade
mod Bases
mod Notes
mod Names
mod Encoded
mod Expected
mod Planned
mod Lifting
mod MadeOf
pub mod Runs
pub mod CheckDecision
mod RunDecided
pub mod InlineDecision
mod Written
pub mod Rechecking
mod PlainAnswers
mod Generating
mod Loading
