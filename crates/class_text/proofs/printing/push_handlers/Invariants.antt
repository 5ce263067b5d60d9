use Rattle.std.proofs.Common.{◌≡◌, ◌++◌, take}
use Rattle.std.specs.List.{flat_map}
use Rattle.class_text.specs.Lines.{handler_line}
use Rattle.class_text.proofs.printing.push_handlers.Given as goal

abbrev pub invariant-loop-entry : goal.invariant-loop-entry
invariant-loop-entry l = l.out ≡ l.fn.out ++ flat_map (handler_line l.pool) (take l.entry-index l.table)
