use Rattle.std.proofs.Common.{◌≡◌, take}
use Rattle.offset_patch.specs.Added.{with_added}
use Rattle.offset_patch.proofs.entries.put_added.Given as goal

abbrev pub invariant-loop-one : goal.invariant-loop-one
invariant-loop-one l = l.items ≡ with_added l.fn.items (take l.one-index l.added)
