use Rattle.std.proofs.Common.{◌≡◌, ◌*◌, ◌^◌, ◌<◌, length}
use Rattle.conspec_automaton.specs.Points.{size_of}
use Rattle.conspec_automaton.specs.Trying.{capped}
use Rattle.race_free_check.proofs.choices.count_of.Given as goal

abbrev pub invariant-loop-left : goal.invariant-loop-left
invariant-loop-left l = record {
  is : capped (l.count * size_of l.left) ≡ capped (size_of l.lists);
  fits : l.count < 2 ^ 64;
}

abbrev pub decreases-loop-left : goal.decreases-loop-left
decreases-loop-left l = length l.left
