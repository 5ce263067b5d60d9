use Rattle.std.proofs.Common.{List, pos, take, drop, length, ◌-◌, sym, ap, subst, ◌∙◌}
use Rattle.conspec_tree.specs.declared.types.Update.{Update}
use Rattle.conspec_tree.specs.declared.types.Update.TheVariants.{Set}
use Rattle.conspec_automaton.specs.Next.{Values, moment, updated}
use Rattle.conspec_automaton.specs.Range.{MayUpdate}
use Rattle.conspec_automaton.proofs.Ranges.{front_at, may_go_on, none_left, sum_fits, target_there}
use Rattle.conspec_automaton.proofs.running.update.Goals as goal

pub update_once-requires-clause-there : goal.update_once-requires-clause-there
update_once-requires-clause-there c =
    let policy = c.args.policy.now in
    let split = front_at c.loop-left.left.now (Set 0 (pos 0)) c.in-len1-up.len_at_least in
    target_there c.args.event.now policy.vars policy.maxint c.loop-left.state _ _ (subst (λ (us : List Update). MayUpdate policy.vars policy.maxint (moment c.loop-left.state c.args.event.now) us) split c.loop-left.invariant.room)

pub update_once-requires-clause-fits : goal.update_once-requires-clause-fits
update_once-requires-clause-fits c =
    let policy = c.args.policy.now in
    let split = front_at c.loop-left.left.now (Set 0 (pos 0)) c.in-len1-up.len_at_least in
    sum_fits c.args.event.now policy.vars policy.maxint c.loop-left.state _ _ c.requires.policy.maxint_high (subst (λ (us : List Update). MayUpdate policy.vars policy.maxint (moment c.loop-left.state c.args.event.now) us) split c.loop-left.invariant.room)

pub loop-left-preserved : goal.loop-left-preserved
loop-left-preserved c =
    let policy = c.args.policy.now in
    let left = c.loop-left.left.now in
    let rest = take (length left - 1) (drop 1 left) in
    let split = front_at left (Set 0 (pos 0)) c.in-len1-up.len_at_least in
    let may = subst (λ (us : List Update). MayUpdate policy.vars policy.maxint (moment c.loop-left.state c.args.event.now) us) split c.loop-left.invariant.room in
    record {
      same = ap (λ (s : Values). updated (moment s c.args.event.now) rest) c.update_once.ensures ∙ ap (updated (moment c.loop-left.state c.args.event.now)) (sym split) ∙ c.loop-left.invariant.same;
      room = subst (λ (s : Values). MayUpdate policy.vars policy.maxint (moment s c.args.event.now) rest) (sym c.update_once.ensures) (may_go_on c.args.event.now policy.vars policy.maxint c.loop-left.state _ rest may);
    }

pub returns-clause-is : goal.returns-clause-is
returns-clause-is c = ap (updated (moment c.loop-left.state c.args.event.now)) (sym (none_left c.loop-left.left.now c.in_default.len_below)) ∙ c.loop-left.invariant.same

pub returns-clause-ranged : goal.returns-clause-ranged
returns-clause-ranged c = c.loop-left.invariant.room.ranged
