pub mod Naming
pub mod Numbers
pub mod Hex
pub mod Unbroken
pub mod Again
pub mod EventsAgain
pub mod Found
pub mod LineLaws
pub mod TextLaws
pub mod RecordsAgain
pub mod Joining
pub mod WrittenAgain
pub mod FirstFault
pub mod Indices
mod Cutting
mod ListingWords
mod WrittenLines
mod ClassNames
mod Shown
mod NamedOperation
mod ShownCalls
mod ShownAnswers
mod ShownRuns
mod ShownStart
mod RunLines
