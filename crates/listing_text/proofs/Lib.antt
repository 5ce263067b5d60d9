mod FirstFault
mod Growing
pub mod LineLaws
mod Lists
pub mod TextLaws
