-- The clauses of each trial are those of the policy, and what the decision says of the policy.
use Rattle.std.proofs.Common.{◌≡◌, ℕ, zero, suc, ◌+◌, Bool, true, false, cond, not, List, [], ◌∷◌, ◌++◌, filter, map, Option, Some, None, Result, Ok, Err, refl, ap, subst, ◌∙◌, arith}
use Rattle.std.specs.Prelude.{IfOk, find, slice_get}
use Rattle.std.specs.List.{AllByRecursion, enumerate_from}
use Rattle.std.specs.Option.{option_map_or}
use Rattle.mon_base.specs.Answer.{Answers}
use Rattle.mon_base.specs.Reading.{◌>>=◌}
use Rattle.conspec_automaton.specs.declared.policy.Clause.{Clause}
use Rattle.conspec_automaton.specs.declared.policy.Policy.{Policy}
use Rattle.conspec_automaton.specs.Racing.{IsRaceFreeFor, Pairs}
use Rattle.conspec_automaton.specs.Sound.{IsClauseIn, IsPolicy}
use Rattle.conspec_automaton.specs.Trying.{Placed, Point, Trial, alone, both, breaks, calls_in, ends_in, is_of_calls, is_tested, pairs, points, trials}
use Rattle.race_free_check.specs.declared.fault.RaceFault.{RaceFault}
use Rattle.race_free_check.specs.declared.fault.RaceFault.TheVariants.{Memory}
use Rattle.race_free_check.specs.declared.verdict.RaceVerdict.{RaceVerdict}
use Rattle.race_free_check.specs.declared.verdict.RaceVerdict.TheVariants.{Free}
use Rattle.race_free_check.specs.Deciding.{AreClausesOf, all_small, broken_in, decided_for, judged, shown}
use Rattle.race_free_check.specs.Laws.{BrokenPointsShow, PointsAreEnough}
use Rattle.race_free_check.specs.Shown.{IsShown, ShowsRace}
use Rattle.race_free_check.proofs.Bounded.{all_joined}

-- ---- the clauses of trials

module _ (tested : Pairs) (policy : Policy) where
  record IsPlacedIn (c : Placed) : Type 0 where
    pub sound : IsClauseIn policy.vars policy.maxint c.1
    pub there : slice_get policy.clauses c.0 ≡ Some c.1

  placed_all : (clauses : List Clause) (i : ℕ) → AllByRecursion (IsClauseIn policy.vars policy.maxint) clauses → ((j : ℕ) → slice_get policy.clauses (i + j) ≡ slice_get clauses j)
      → AllByRecursion IsPlacedIn (enumerate_from i clauses)
  placed_all [] i all each = tt
  placed_all (c ∷ clauses) i all each = (record { sound = all.0; there = here }, placed_all clauses (i + 1) all.1 later) where
    here : slice_get policy.clauses i ≡ Some c
    here = let same : i + 0 ≡ i = omega arith in subst (λ (n : ℕ). slice_get policy.clauses n ≡ Some c) same (each 0)

    later : (j : ℕ) → slice_get policy.clauses ((i + 1) + j) ≡ slice_get clauses j
    later j = let same : i + suc j ≡ (i + 1) + j = omega arith in subst (λ (n : ℕ). slice_get policy.clauses n ≡ slice_get clauses j) same (each (suc j))

  kept_all : (test : Placed → Bool) (cs : List Placed) → AllByRecursion IsPlacedIn cs → AllByRecursion IsPlacedIn (filter test cs)
  kept_all test [] all = tt
  kept_all test (c ∷ cs) all = by (test c) (kept_all test cs all.1) where
    by : (b : Bool) → AllByRecursion IsPlacedIn (filter test cs) → AllByRecursion IsPlacedIn (cond b (c ∷ filter test cs) (filter test cs))
    by true rest = (all.0, rest)
    by false rest = rest

  alone_all : (condition : ℕ) (cs : List Placed) → AllByRecursion IsPlacedIn cs → AllByRecursion (AreClausesOf policy) (map (alone condition) cs)
  alone_all condition [] all = tt
  alone_all condition (c ∷ cs) all = (record { first = all.0.sound; second = tt; first_there = all.0.there; second_there = tt }, alone_all condition cs all.1)

  both_all : (condition : ℕ) (c : Placed) (ds : List Placed) → IsPlacedIn c → AllByRecursion IsPlacedIn ds → AllByRecursion (AreClausesOf policy) (map (both condition c) ds)
  both_all condition c [] one all = tt
  both_all condition c (d ∷ ds) one all = (record { first = one.sound; second = all.0.sound; first_there = one.there; second_there = all.0.there }, both_all condition c ds one all.1)

  pairs_all : (condition : ℕ) (cs ds : List Placed) → AllByRecursion IsPlacedIn cs → AllByRecursion IsPlacedIn ds → AllByRecursion (AreClausesOf policy) (pairs tested condition cs ds)
  pairs_all condition [] ds first second = tt
  pairs_all condition (c ∷ cs) ds first second =
      all_joined (AreClausesOf policy) (map (both condition c) (filter (is_tested tested c) ds)) (pairs tested condition cs ds)
      (both_all condition c (filter (is_tested tested c) ds) first.0 (kept_all (is_tested tested c) ds second)) (pairs_all condition cs ds first.1 second)

  pub trials_all : IsPolicy policy → AllByRecursion (AreClausesOf policy) (trials tested policy)
  trials_all sound =
      let all = placed_all policy.clauses 0 sound.clauses (λ j. let same : 0 + j ≡ j = omega arith in ap (slice_get policy.clauses) same) in
      let calls = kept_all (λ (c : Placed). is_of_calls c.1.phase) (enumerate_from 0 policy.clauses) all in
      let ends = kept_all (λ (c : Placed). not (is_of_calls c.1.phase)) (enumerate_from 0 policy.clauses) all in
      all_joined (AreClausesOf policy)
      ((map (alone 0) (ends_in policy) ++ pairs tested 1 (calls_in policy) (calls_in policy)) ++ pairs tested 2 (ends_in policy) (ends_in policy))
      (pairs tested 3 (calls_in policy) (ends_in policy))
      (all_joined (AreClausesOf policy) (map (alone 0) (ends_in policy) ++ pairs tested 1 (calls_in policy) (calls_in policy)) (pairs tested 2 (ends_in policy) (ends_in policy))
      (all_joined (AreClausesOf policy) (map (alone 0) (ends_in policy)) (pairs tested 1 (calls_in policy) (calls_in policy))
      (alone_all 0 (ends_in policy) ends) (pairs_all 1 (calls_in policy) (calls_in policy) calls calls))
      (pairs_all 2 (ends_in policy) (ends_in policy) ends ends))
      (pairs_all 3 (calls_in policy) (ends_in policy) calls ends)

-- ---- what a verdict says

-- The point is in a list, and passes a test.
record PointAt (test : Point → Bool) (ps : List Point) (point : Point) : Type 0 where
  pub place : ℕ
  pub there : slice_get ps place ≡ Some point
  pub passes : test point ≡ true

found_at : (test : Point → Bool) (ps : List Point) (point : Point) → find test ps ≡ Some point → PointAt test ps point
found_at test [] point e = absurd cc
found_at test (p ∷ ps) point e = by (test p) refl e (found_at test ps point) where
  by : (b : Bool) → test p ≡ b → cond b (Some p) (find test ps) ≡ Some point → (find test ps ≡ Some point → PointAt test ps point) → PointAt test (p ∷ ps) point
  by true passes e later =
      let same : p ≡ point = cc in
      subst (λ (q : Point). PointAt test (p ∷ ps) q) same (record { place = 0; there = refl; passes = passes })
  by false fails e later = let at = later e in record { place = suc at.place; there = at.there; passes = at.passes }

module _ (tested : Pairs) (policy : Policy) where
  none_broken : (ts : List Trial) → judged policy ts ≡ Free → (i : ℕ) (trial : Trial) → slice_get ts i ≡ Some trial → broken_in policy trial ≡ None
  none_broken [] free i trial there = absurd cc
  none_broken (t ∷ ts) free i trial there = by (broken_in policy t) refl free (none_broken ts) where
    by : (o : Option Point) → broken_in policy t ≡ o → option_map_or (shown t) o (judged policy ts) ≡ Free
        → (judged policy ts ≡ Free → (i : ℕ) (trial : Trial) → slice_get ts i ≡ Some trial → broken_in policy trial ≡ None) → broken_in policy trial ≡ None
    by (Some point) e free later = absurd cc
    by None e free later = at i there where
      at : (i : ℕ) → slice_get (t ∷ ts) i ≡ Some trial → broken_in policy trial ≡ None
      at zero here = let same : t ≡ trial = cc in subst (λ (u : Trial). broken_in policy u ≡ None) same e
      at (suc i) here = later free i trial here

  -- each point of the trials that breaks its condition shows it
  abbrev EachShows : List Trial → Type 0
  EachShows ts =
      (i j : ℕ) (trial : Trial) (point : Point) → slice_get ts i ≡ Some trial → slice_get (points policy trial) j ≡ Some point → breaks policy point ≡ true
      → IsShown tested policy trial.condition point.state point.first point.second

  judged_shows : (ts : List Trial) → EachShows ts → ShowsRace tested policy (judged policy ts)
  unfolding broken_in
  judged_shows [] each = tt
  judged_shows (t ∷ ts) each = by (broken_in policy t) refl (judged_shows ts (λ i. each (suc i))) where
    by : (o : Option Point) → broken_in policy t ≡ o → ShowsRace tested policy (judged policy ts) → ShowsRace tested policy (option_map_or (shown t) o (judged policy ts))
    by (Some point) e later = let at = found_at (breaks policy) (points policy t) point e in each 0 at.place t point refl at.there at.passes
    by None e later = later

  decided_judged : (verdict : RaceVerdict) → decided_for tested policy ≡ Ok verdict → judged policy (trials tested policy) ≡ verdict
  decided_judged verdict e = by (all_small policy (trials tested policy)) e where
    by : (o : Result (Unit {0}) RaceFault) → (o >>= λ small. Ok (judged policy (trials tested policy))) ≡ Ok verdict → judged policy (trials tested policy) ≡ verdict
    by (Ok small) e = cc
    by (Err fault) e = absurd cc

  -- A verdict that is decided shows why the policy is racy, and else the policy is race-free.
  pub shows : BrokenPointsShow → IsPolicy policy → (verdict : RaceVerdict) → decided_for tested policy ≡ Ok verdict → ShowsRace tested policy verdict
  shows show sound verdict e = subst (ShowsRace tested policy) (decided_judged verdict e) (judged_shows (trials tested policy) (show tested policy sound))

  pub free_is : PointsAreEnough → IsPolicy policy → (verdict : RaceVerdict) → decided_for tested policy ≡ Ok verdict → verdict ≡ Free → IsRaceFreeFor tested policy
  free_is enough sound verdict e free = enough tested policy sound (none_broken (trials tested policy) (decided_judged verdict e ∙ free))

  -- What is told of decided verdicts is told of answers.
  pub of_decided : (P : RaceVerdict → Type 0) (answer : Result RaceVerdict RaceFault) → Answers Memory answer (decided_for tested policy) → ((verdict : RaceVerdict) → decided_for tested policy ≡ Ok verdict → P verdict) → IfOk answer P
  of_decided P (Ok verdict) e each = each verdict e
  of_decided P (Err fault) e each = tt
