pub mod Ascend
pub mod CodeLaws
pub mod Finding
pub mod InsnForms
pub mod InsnLaws
pub mod Instruction
pub mod Laws
pub mod Loop
pub mod Marks
pub mod OpcodeTable
pub mod Putting
pub mod Sequence
pub mod Standing
pub mod SwitchLaws
pub mod WriteLaws
mod Pairs
mod Moving
pub mod Following
mod OpcodeTests
pub mod Table
