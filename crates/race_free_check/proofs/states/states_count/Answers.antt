use Rattle.std.proofs.Common.{FitsSigned, w32, ℤ, ℕ, ◌-◌, ◌*◌, List, length, drop, take, map, sym, ap, ◌∙◌, arith}
use Rattle.std.specs.List.{enumerate_from}
use Rattle.std.proofs.lemmas.Int.{ints, to_z-of_z}
use Rattle.conspec_tree.specs.declared.types.Var.{Var}
use Rattle.conspec_automaton.proofs.Ranges.{none_left}
use Rattle.conspec_automaton.specs.Points.{Variable, points_at, size_of, states_count}
use Rattle.conspec_automaton.specs.Trying.{capped}
use Rattle.race_free_check.proofs.Grown.{front_is, one_less, placed_sizes_more}
use Rattle.race_free_check.proofs.Sizes.{count_done}
use Rattle.race_free_check.proofs.states.states_count.Goals as goal

pub loop-left-preserved : goal.loop-left-preserved
loop-left-preserved c =
    let left = c.loop-left.left.now in
    let rest = take (length left - 1) (drop 1 left) in
    let front = (front_is left c.var-item.result c.var-item.result c.in-len1-up.len_at_least c.var-item.is) in
    let fits : FitsSigned w32 c.args.policy.now.maxint = omega (arith, ints) in
    let points = c.in_ok-points.ensures ∙ ap (λ (n : ℤ). points_at c.args.clauses.now (Variable n c.loop-left.place c.var-item.result)) (to_z-of_z w32 c.args.policy.now.maxint fits) in
    let size = c.len.ensures ∙ ap length points in
    record {
      is = placed_sizes_more (λ (v : ℕ × Var). points_at c.args.clauses.now (Variable c.args.policy.now.maxint v.0 v.1)) c.loop-left.place left rest c.var-item.result c.loop-left.count c.len.result c.saturating_mul-count.result
          (capped (states_count c.args.policy.now c.args.clauses.now)) front c.loop-left.invariant.is size c.saturating_mul-count.ensures;
      fits = omega arith;
      count = one_less c.loop-left.place left rest c.var-item.result (length c.args.policy.now.vars) front c.loop-left.invariant.count;
    }

pub returns : goal.returns
returns c =
    let none = none_left c.loop-left.left.now c.in_default.len_below in
    count_done c.loop-left.count (capped (states_count c.args.policy.now c.args.clauses.now)) c.loop-left.invariant.fits
    (ap (λ (left : List Var). capped (c.loop-left.count * size_of (map (λ (v : ℕ × Var). points_at c.args.clauses.now (Variable c.args.policy.now.maxint v.0 v.1)) (enumerate_from c.loop-left.place left)))) (sym none) ∙ c.loop-left.invariant.is)
