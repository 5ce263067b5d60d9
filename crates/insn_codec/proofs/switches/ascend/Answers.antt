use Rattle.std.proofs.Common.{pos, map, get_or, FitsSigned, rules}
use Rattle.std.specs.Int.{w32, w64}
use mir.Val.{to_z}
use Rattle.insn_codec.specs.declared.insn.Case.{Case}
use Rattle.insn_codec.specs.Reading.{ascend}
use Rattle.insn_codec.proofs.Ascend.{ascends_on, ascends_no, ascends_all}
use Rattle.insn_codec.proofs.switches.ascend.Goals as goal

abbrev none : Case
none = record { key = pos 0; to = 0 }

pub returns-then-first-least : goal.returns-then-first-least
returns-then-first-least c =
    let left = c.loop-left.left.now in
    let fits : FitsSigned w32 (get_or left 0 none).key = search rules in
    ascends_no left none (to_z w64 c.loop-left.least-bits) (ascend (map (λ one. one.key) c.args.keys.now))
    c.in-len1-up.len_at_least fits c.if-first-least.true c.loop-left.invariant

pub loop-left-preserved : goal.loop-left-preserved
loop-left-preserved c =
    let left = c.loop-left.left.now in
    let fits : FitsSigned w32 (get_or left 0 none).key = search rules in
    ascends_on left none (to_z w64 c.loop-left.least-bits) (ascend (map (λ one. one.key) c.args.keys.now))
    c.in-len1-up.len_at_least fits c.if-first-least.false c.loop-left.invariant

pub returns : goal.returns
returns c =
    ascends_all c.loop-left.left.now (to_z w64 c.loop-left.least-bits) (ascend (map (λ one. one.key) c.args.keys.now))
    c.in_default.len_below c.loop-left.invariant
