use Rattle.std.proofs.Common.{◌≡◌, ◌++◌, length}
use Rattle.offset_patch.specs.Splicing.{parts_named}
use Rattle.offset_patch.proofs.operands.parts_named.Given as goal

abbrev pub invariant-loop-own : goal.invariant-loop-own
invariant-loop-own l = l.named ++ parts_named l.state l.own l.left ≡ parts_named l.state l.refs l.sites

abbrev pub decreases-loop-own : goal.decreases-loop-own
decreases-loop-own l = length l.own
