-- What is known where it was decided whether a policy is race-free.
use Rattle.std.proofs.Common.{◌≡◌, ◌≢◌, ◌<◌, ◌≤◌, ℕ, true, List, [], ◌∷◌, ◌++◌, Result, Ok, Err, refl, subst, sym, arith}
use Rattle.std.specs.Prelude.{IfErr, IfOk, is_ok}
use Rattle.std.specs.List.{AllByRecursion}
use Rattle.cert_checker.specs.declared.judging.Denial.{Denial}
use Rattle.cert_checker.specs.declared.judging.Denial.TheVariants as denials
use Rattle.cert_checker.specs.Judging.{race_denied}
use Rattle.conspec_automaton.specs.declared.policy.Policy.{Policy}
use Rattle.conspec_automaton.specs.Racing.{IsRaceFree, all_pairs}
use Rattle.conspec_automaton.specs.Trying.{max_points, point_count, trials}
use Rattle.race_free_check.specs.declared.fault.RaceFault.{RaceFault}
use Rattle.race_free_check.specs.declared.fault.RaceFault.TheVariants as faults
use Rattle.race_free_check.specs.declared.verdict.RaceVerdict.{RaceVerdict}
use Rattle.race_free_check.specs.declared.verdict.RaceVerdict.TheVariants as verdicts
use Rattle.race_free_check.specs.Limit.{AllHaveFewPoints, HasFewPoints, IsAboveLimit, TellsLimit}

-- A policy that is not denied for races is race-free.
pub free_so : (policy : Policy) (r : Result RaceVerdict RaceFault) → IfOk r (λ (v : RaceVerdict). v ≡ verdicts.Free → IsRaceFree policy) → is_ok (race_denied r) ≡ true → IsRaceFree policy
free_so policy (Ok verdicts.Free) free ok = free refl
free_so policy (Ok (verdicts.Racy condition state first second)) free ok = absurd cc
free_so policy (Err (faults.CellLimit first second count)) free ok = absurd cc
free_so policy (Err faults.Memory) free ok = absurd cc

-- Where it is not denied for races, it was decided.
pub decided_so : (r : Result RaceVerdict RaceFault) → is_ok (race_denied r) ≡ true → is_ok r ≡ true
decided_so (Ok verdict) ok = refl
decided_so (Err (faults.CellLimit first second count)) ok = absurd cc
decided_so (Err faults.Memory) ok = absurd cc

-- what holds of each holds of one between others
between : {A : Type 0} (P : A → Type 0) (before : List A) (x : A) (later : List A) → AllByRecursion P (before ++ x ∷ later) → P x
between P [] x later all = all.0
between P (y ∷ before) x later all = between P before x later all.1

never_above : (policy : Policy) (first second count : ℕ) → AllHaveFewPoints all_pairs policy → IsAboveLimit policy (trials all_pairs policy) first second count → ⊥
never_above policy first second count few above =
    let here : point_count policy above.trial ≤ max_points =
    between (HasFewPoints policy) above.earlier above.trial above.later (subst (AllByRecursion (HasFewPoints policy)) above.split few) in
    let more : max_points < point_count policy above.trial = subst (λ (n : ℕ). max_points < n) (sym above.count_is) above.many in
    absurd (omega (arith, here, more))

-- Of a race-free policy with few points it is decided that it is so, unless memory ran out.
pub only_memory : (policy : Policy) (r : Result RaceVerdict RaceFault) → IfOk r (λ (v : RaceVerdict). v ≢ verdicts.Free → IsRaceFree policy → ⊥)
    → IfErr r (TellsLimit all_pairs policy) → IsRaceFree policy → AllHaveFewPoints all_pairs policy → IfErr (race_denied r) (λ (d : Denial). d ≡ denials.Memory)
only_memory policy (Ok verdicts.Free) racy limit free few = tt
only_memory policy (Ok (verdicts.Racy condition state first second)) racy limit free few = absurd (racy (λ e. absurd cc) free)
only_memory policy (Err (faults.CellLimit first second count)) racy limit free few = absurd (never_above policy first second count few limit)
only_memory policy (Err faults.Memory) racy limit free few = refl
