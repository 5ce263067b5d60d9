pub mod Places
pub mod Acceptance
pub mod Secure
pub mod Judging
pub mod Denied
pub mod Testing
