use Rattle.std.proofs.Common.{◌≡◌, ◌^◌, ◌++◌, ℤ, List, sym, ap, subst, ◌∙◌}
use Rattle.std.specs.List.{filter_map}
use Rattle.std.proofs.lemmas.Result.{IfOk-weaker}
use Rattle.conspec_automaton.specs.Points.{added_to, shifts, sums, updates_in}
use Rattle.race_free_check.specs.Small.{AreSmall, HasSame}
use Rattle.race_free_check.proofs.Pointed.{shifts_same}
use Rattle.race_free_check.proofs.points.shifts.Goals as goal

pub sums-requires : goal.sums-requires
sums-requires c = subst (λ (ns : List ℤ). AreSmall (2 ^ 31) ns) (sym c.as_slice.ensures.value) (c.ascending-addends.ensures.small (2 ^ 31) c.in_ok-add_all_addends.ensures.small)

pub returns-clause-same : goal.returns-clause-same
returns-clause-same c =
    let named = c.in_ok-add_all_addends.ensures.adds ∙ ap (λ (ns : List ℤ). ns ++ filter_map (added_to c.args.place) (updates_in c.args.clauses.now)) c.new-addends.ensures.items in
    IfOk-weaker c.sums.result (λ found. found.items ≡ sums c.as_slice.result.now) (λ found. HasSame found.items (shifts c.args.place c.args.clauses.now))
    (λ found is. shifts_same c.args.place c.args.clauses.now c.add_all_addends.new.numbers.items c.as_slice.result.now found.items named (c.as_slice.ensures.value ∙ c.ascending-addends.ensures.is) is)
    c.sums.ensures.is
