pub mod Loop
mod Numbers
mod PoolLaws
mod AttributeLaws
pub mod FileLaws
