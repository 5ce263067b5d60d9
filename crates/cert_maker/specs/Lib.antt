pub mod Canonical
pub mod CanonicalIsTyped
pub mod Small
pub mod Noting
pub mod Accepting
