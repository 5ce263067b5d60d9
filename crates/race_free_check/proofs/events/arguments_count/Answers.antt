use Rattle.std.proofs.Common.{ℕ, ◌-◌, ◌*◌, ◌∷◌, [], List, length, drop, take, get_or, map, sym, ap, ◌∙◌, arith}
use Rattle.std.specs.List.{enumerate_from}
use Rattle.conspec_tree.specs.declared.types.Kind.{Kind}
use Rattle.conspec_tree.specs.declared.types.Kind.TheVariants as kinds
use Rattle.conspec_tree.specs.declared.types.Phase.TheVariants as phases
use Rattle.conspec_automaton.specs.declared.policy.Clause.{Clause}
use Rattle.conspec_automaton.proofs.Ranges.{front_at, none_left}
use Rattle.conspec_automaton.specs.Points.{Argument, events_count, points_at, size_of}
use Rattle.conspec_automaton.specs.Trying.{capped}
use Rattle.race_free_check.proofs.Grown.{one_less, placed_sizes_more}
use Rattle.race_free_check.proofs.Sizes.{count_done}
use Rattle.race_free_check.proofs.events.arguments_count.Goals as goal

pub loop-left-preserved : goal.loop-left-preserved
loop-left-preserved c =
    let left = c.loop-left.left.now in
    let rest = take (length left - 1) (drop 1 left) in
    let front = front_at left kinds.Int c.in-len1-up.len_at_least in
    let size = c.len.ensures ∙ ap length (c.in_ok-points.ensures ∙ ap (λ (cs : List Clause). points_at cs (Argument c.loop-left.place (get_or c.loop-left.left.now 0 kinds.Int))) c.alone-clauses.ensures) in
    record {
      is = placed_sizes_more (λ (a : ℕ × Kind). points_at (c.args.clause.now ∷ []) (Argument a.0 a.1)) c.loop-left.place left rest _ c.loop-left.count c.len.result c.saturating_mul-count.result _ front c.loop-left.invariant.is size c.saturating_mul-count.ensures;
      fits = omega arith;
      count = one_less c.loop-left.place left rest _ (length c.args.clause.now.args) front c.loop-left.invariant.count;
    }

pub returns : goal.returns
returns c =
    let none = none_left c.loop-left.left.now c.in_default.len_below in
    let all = events_count c.args.clause.now phases.Before in
    count_done c.loop-left.count (capped all) c.loop-left.invariant.fits
    (ap (λ (left : List Kind). capped (c.loop-left.count * size_of (map (λ (a : ℕ × Kind). points_at (c.args.clause.now ∷ []) (Argument a.0 a.1)) (enumerate_from c.loop-left.place left)))) (sym none) ∙ c.loop-left.invariant.is)
