use Rattle.std.proofs.Common.{FitsSigned, w32, ℤ, ℕ, ◌-◌, length, drop, take, ap, ◌∙◌, arith}
use Rattle.std.proofs.lemmas.Int.{ints, to_z-of_z}
use Rattle.conspec_tree.specs.declared.types.Var.{Var}
use Rattle.conspec_automaton.specs.Points.{Variable, choices_of, points_at}
use Rattle.race_free_check.proofs.Grown.{front_is, one_less, placed_more}
use Rattle.race_free_check.proofs.states.choices_of.Goals as goal

pub loop-left-preserved : goal.loop-left-preserved
loop-left-preserved c =
    let left = c.loop-left.left.now in
    let rest = take (length left - 1) (drop 1 left) in
    let front = (front_is left c.var-item.result c.var-item.result c.in-len1-up.len_at_least c.var-item.is) in
    let fits : FitsSigned w32 c.args.policy.now.maxint = omega (arith, ints) in
    let points = c.in_ok-points_at.ensures ∙ ap (λ (n : ℤ). points_at c.args.clauses.now (Variable n c.loop-left.place c.var-item.result)) (to_z-of_z w32 c.args.policy.now.maxint fits) in
    record {
      is = placed_more (λ (v : ℕ × Var). points_at c.args.clauses.now (Variable c.args.policy.now.maxint v.0 v.1)) c.loop-left.place left rest c.var-item.result c.loop-left.lists c.push.new.self
          (choices_of c.args.policy.now c.args.clauses.now) c.in_ok-points_at.field-0 front c.loop-left.invariant.is c.in_ok-push.ensures.ok points;
      count = one_less c.loop-left.place left rest c.var-item.result (length c.args.policy.now.vars) front c.loop-left.invariant.count;
    }
