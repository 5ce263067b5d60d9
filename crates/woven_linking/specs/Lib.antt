pub mod Origins
pub mod Links
pub mod Program
pub mod Inlined
