-- A policy is decided only where no trial has too many points, and else the first that has is told.
use Rattle.std.proofs.Common.{◌≡◌, ℕ, ◌<◌, Bool, true, false, List, [], ◌∷◌, Result, Ok, Err, refl, ap, arith}
use Rattle.std.specs.Prelude.{IfErr, IsOk}
use Rattle.std.specs.List.{AllByRecursion}
use Rattle.std.proofs.lemmas.Bool.{leb-false, leb-true}
use Rattle.mon_base.specs.Answer.{Answers}
use Rattle.mon_base.specs.Reading.{◌>>=◌, need}
use Rattle.conspec_automaton.specs.declared.policy.Policy.{Policy}
use Rattle.conspec_automaton.specs.Racing.{Pairs}
use Rattle.conspec_automaton.specs.Trying.{Trial, is_small, max_points, point_count, trials}
use Rattle.race_free_check.specs.declared.fault.RaceFault.{RaceFault}
use Rattle.race_free_check.specs.declared.fault.RaceFault.TheVariants.{CellLimit, Memory}
use Rattle.race_free_check.specs.declared.verdict.RaceVerdict.{RaceVerdict}
use Rattle.race_free_check.specs.Deciding.{all_small, decided_for, judged, second_place, too_many}
use Rattle.race_free_check.specs.Limit.{AllHaveFewPoints, HasFewPoints, IsAboveLimit, TellsLimit}

module _ (policy : Policy) where
  few_points : (trial : Trial) → is_small policy trial ≡ true → HasFewPoints policy trial
  few_points trial e = leb-true (point_count policy trial) max_points e

  many_points : (trial : Trial) → is_small policy trial ≡ false → max_points < point_count policy trial
  many_points trial e = leb-false (point_count policy trial) max_points e

  all_few : (ts : List Trial) (small : Unit {0}) → all_small policy ts ≡ Ok small → AllByRecursion (HasFewPoints policy) ts
  all_few [] small e = tt
  all_few (t ∷ ts) small e = by (is_small policy t) refl e (all_few ts small) where
    by : (b : Bool) → is_small policy t ≡ b → (need b (too_many policy t) >>= λ small. all_small policy ts) ≡ Ok small
        → (all_small policy ts ≡ Ok small → AllByRecursion (HasFewPoints policy) ts) → AllByRecursion (HasFewPoints policy) (t ∷ ts)
    by true is e later = (few_points t is, later e)
    by false is e later = absurd cc

  first_above : (ts : List Trial) (first second count : ℕ) → all_small policy ts ≡ Err (CellLimit first second count) → IsAboveLimit policy ts first second count
  first_above [] first second count e = absurd cc
  first_above (t ∷ ts) first second count e = by (is_small policy t) refl e (first_above ts first second count) where
    by : (b : Bool) → is_small policy t ≡ b → (need b (too_many policy t) >>= λ small. all_small policy ts) ≡ Err (CellLimit first second count)
        → (all_small policy ts ≡ Err (CellLimit first second count) → IsAboveLimit policy ts first second count) → IsAboveLimit policy (t ∷ ts) first second count
    by true is e later =
        let r = later e in
        record {
          earlier = t ∷ r.earlier;
          trial = r.trial;
          later = r.later;
          split = ap (λ (us : List Trial). t ∷ us) r.split;
          few = (few_points t is, r.few);
          first_is = r.first_is;
          second_is = r.second_is;
          count_is = r.count_is;
          many = r.many;
        }
    by false is e later =
        let told : CellLimit t.first.0 (second_place t) (point_count policy t) ≡ CellLimit first second count = cc in
        let count_is : point_count policy t ≡ count = cc in
        record {
          earlier = [];
          trial = t;
          later = ts;
          split = refl;
          few = tt;
          first_is = cc;
          second_is = cc;
          count_is = count_is;
          many = omega (arith, many_points t is, count_is);
        }

module _ (tested : Pairs) (policy : Policy) where
  decided_small : (verdict : RaceVerdict) → decided_for tested policy ≡ Ok verdict → AllHaveFewPoints tested policy
  decided_small verdict e = by (all_small policy (trials tested policy)) refl e where
    by : (o : Result (Unit {0}) RaceFault) → all_small policy (trials tested policy) ≡ o → (o >>= λ small. Ok (judged policy (trials tested policy))) ≡ Ok verdict → AllHaveFewPoints tested policy
    by (Ok small) is e = all_few policy (trials tested policy) small is
    by (Err fault) is e = absurd cc

  decided_limit : (first second count : ℕ) → decided_for tested policy ≡ Err (CellLimit first second count) → IsAboveLimit policy (trials tested policy) first second count
  decided_limit first second count e = by (all_small policy (trials tested policy)) refl e where
    by : (o : Result (Unit {0}) RaceFault) → all_small policy (trials tested policy) ≡ o → (o >>= λ small. Ok (judged policy (trials tested policy))) ≡ Err (CellLimit first second count)
        → IsAboveLimit policy (trials tested policy) first second count
    by (Ok small) is e = absurd cc
    by (Err fault) is e = first_above policy (trials tested policy) first second count cc

  pub small_is : (answer : Result RaceVerdict RaceFault) → Answers Memory answer (decided_for tested policy) → IsOk answer → AllHaveFewPoints tested policy
  small_is (Ok verdict) e ok = decided_small verdict e
  small_is (Err fault) e ok = absurd cc

  pub limit_is : (answer : Result RaceVerdict RaceFault) → Answers Memory answer (decided_for tested policy) → IfErr answer (TellsLimit tested policy)
  limit_is (Ok verdict) e = tt
  limit_is (Err (CellLimit first second count)) e = decided_limit first second count (e (λ same. absurd cc))
  limit_is (Err Memory) e = tt
