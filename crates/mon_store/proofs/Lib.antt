mod Answering
mod ListedFiles
mod Pieces
pub mod StoreLaws
mod Writing
