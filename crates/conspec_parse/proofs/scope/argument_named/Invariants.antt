use Rattle.std.proofs.Common.{◌≡◌, ◌+◌, length}
use Rattle.conspec_parse.specs.Scope.{argument_from}
use Rattle.conspec_parse.proofs.scope.argument_named.Given as goal

abbrev pub invariant-loop-left : goal.invariant-loop-left
invariant-loop-left l = record {
  so_far : argument_from l.index l.left l.name ≡ argument_from 0 l.args l.name;
  count : l.index + length l.left ≡ length l.args;
}

abbrev pub decreases-loop-left : goal.decreases-loop-left
decreases-loop-left l = length l.left
