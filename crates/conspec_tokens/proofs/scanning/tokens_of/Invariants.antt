use Rattle.std.proofs.Common.{◌≡◌, ◌+◌, ◌++◌, length}
use Rattle.conspec_tokens.specs.Tokens.{tokens_from, tokens_of}
use Rattle.conspec_tokens.proofs.scanning.tokens_of.Given as goal

abbrev pub invariant-loop-left : goal.invariant-loop-left
invariant-loop-left l = record {
  so_far : l.tokens ++ tokens_from l.spot l.at l.left ≡ tokens_of l.text;
  count : l.at + length l.left ≡ length l.text;
}

abbrev pub decreases-loop-left : goal.decreases-loop-left
decreases-loop-left l = length l.left
