use Rattle.std.proofs.Common.{◌^◌, ℤ, List, w32, sym, ap, subst, ◌∙◌}
use Rattle.std.proofs.lemmas.Int.{to_z-of_z}
use Rattle.race_free_check.specs.Small.{AreSmall}
use Rattle.conspec_automaton.specs.Points.{marks}
use Rattle.race_free_check.proofs.Pointed.{thresholds_same}
use Rattle.race_free_check.proofs.points.thresholds.Goals as goal

pub differences-requires-clause-marks : goal.differences-requires-clause-marks
differences-requires-clause-marks c = subst (λ (ns : List ℤ). AreSmall (2 ^ 31) ns) (sym c.as_slice.ensures.value) (c.ascending-marks.ensures.small (2 ^ 31) c.in_ok-marks.ensures.small)

pub differences-requires-clause-shifts : goal.differences-requires-clause-shifts
differences-requires-clause-shifts c = subst (λ (ns : List ℤ). AreSmall (2 ^ 32) ns) (sym c.as_slice-2.ensures.value) (c.ascending-shifts.ensures.small (2 ^ 32) c.in_ok-shifts.ensures.small)

pub returns-clause-same : goal.returns-clause-same
returns-clause-same c =
    let cs = c.args.clauses.now in
    thresholds_same c.args.place cs c.args.maxint c.in_ok-marks.marks.items c.in_ok-shifts.shifts.items c.as_slice.result.now c.as_slice-2.result.now c.in_ok-found.found.items c.ascending.result.items
    (c.in_ok-marks.ensures.is ∙ ap (λ (n : ℤ). marks n c.args.place cs) (to_z-of_z w32 c.args.maxint c.ranges.maxint))
    (c.as_slice.ensures.value ∙ c.ascending-marks.ensures.is) c.in_ok-shifts.ensures.same (c.as_slice-2.ensures.value ∙ c.ascending-shifts.ensures.is) c.in_ok-found.ensures.is c.ascending.ensures.is

pub returns-clause-small : goal.returns-clause-small
returns-clause-small c = c.ascending.ensures.small (2 ^ 34) c.in_ok-found.ensures.small
