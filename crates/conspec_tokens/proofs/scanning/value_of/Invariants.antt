use Rattle.std.proofs.Common.{◌≡◌, ◌≤◌, length}
use Rattle.conspec_tokens.specs.Tokens.{most, number_from}
use Rattle.conspec_tokens.proofs.scanning.value_of.Given as goal

abbrev pub invariant-loop-left : goal.invariant-loop-left
invariant-loop-left l = record {
  so_far : number_from l.value l.left ≡ number_from 0 l.digits;
  low : l.value ≤ most;
}

abbrev pub decreases-loop-left : goal.decreases-loop-left
decreases-loop-left l = length l.left
