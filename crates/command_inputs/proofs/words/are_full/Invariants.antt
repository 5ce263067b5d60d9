use Rattle.std.proofs.Common.{◌≢◌, ◌↔◌, [], length}
use Rattle.std.specs.List.{AllByRecursion}
use Rattle.command_inputs.proofs.words.are_full.Given as goal

abbrev pub invariant-loop-rest : goal.invariant-loop-rest
invariant-loop-rest l = AllByRecursion (λ word. word ≢ []) l.fn.words ↔ AllByRecursion (λ word. word ≢ []) l.rest

abbrev pub decreases-loop-rest : goal.decreases-loop-rest
decreases-loop-rest l = length l.rest
