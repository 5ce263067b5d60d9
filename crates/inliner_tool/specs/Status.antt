-- The exit status of the program. (docs/COMMANDS.md)
use Rattle.std.specs.Prelude.{ℕ}
use Rattle.inliner_tool.specs.declared.tool.Status.{Status}
use Rattle.inliner_tool.specs.declared.tool.Status.TheVariants.{Done, Denied, Usage, Input, Overflow, StoreFault, SinkFault, Memory, Device, Budget, Mismatch}

abbrev pub code_of : Status → ℕ
code_of Done = 0
code_of Denied = 1
code_of Usage = 2
code_of Input = 3
code_of Overflow = 4
code_of StoreFault = 5
code_of SinkFault = 6
code_of Memory = 7
code_of Device = 8
code_of Budget = 9
code_of Mismatch = 10
