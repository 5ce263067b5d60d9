-- Which threads are in calls of methods with clauses, and who has the lock.
use Rattle.std.proofs.Common.{◌≡◌, ◌∙◌, ℕ, zero, suc, ◌+◌, Bool, true, false, cond, List, [], ◌∷◌, ◌++◌, Option, Some, None, refl, sym, ap, subst, arith}
use Rattle.std.specs.Prelude.{◌==◌, ◌&&◌, ◌||◌, IfSome, not, filter, find, slice_get, slice_set}
use Rattle.std.specs.List.{list_any}
use Rattle.std.specs.Option.{option_map_or, option_to_list}
use Rattle.api_listing.specs.declared.events.Event.{Event}
use Rattle.cert_format.specs.declared.certificate.Mode.{Mode}
use Rattle.cert_format.specs.declared.certificate.Mode.TheVariants.{Hold, Release}
use Rattle.conspec_automaton.specs.declared.policy.Clause.{Clause}
use Rattle.conspec_automaton.specs.declared.policy.Policy.{Policy}
use Rattle.conspec_automaton.specs.Next.{Values, has_clauses, is_phase_of, method_of, moment, next, next_by, speaks_of}
use Rattle.guest_heap.specs.declared.object.Monitor.{Monitor}
use Rattle.guest_heap.specs.declared.thread.Thread.{Thread}
use Rattle.block_template.specs.Blocks.{is_locked}
use Rattle.block_runs.specs.Joining.{LockIs, callers, is_calling}
use Rattle.block_runs.specs.Steps.{held_by}

-- ---- an event without clauses

module _ (event : Event) where
  none_speaks : (clauses : List Clause) → list_any (λ (c : Clause). c.method == method_of event) clauses ≡ false
      → find (speaks_of event) clauses ≡ None
  none_speaks [] e = refl
  none_speaks (c ∷ clauses) e = by (c.method == method_of event) (is_phase_of event c.phase) e (none_speaks clauses)
    where
      by : (b p : Bool) → (b || list_any (λ (c : Clause). c.method == method_of event) clauses) ≡ false
          → (list_any (λ (c : Clause). c.method == method_of event) clauses ≡ false → find (speaks_of event) clauses ≡ None)
          → cond (b && p) (Some c) (find (speaks_of event) clauses) ≡ None
      by true p e later = absurd cc
      by false p e later = later e

  -- It leaves the policy's state.
  pub next_same : (policy : Policy) (now : Values) → has_clauses policy (method_of event) ≡ false → next policy now event ≡ Some now
  next_same policy now e =
      ap (λ (o : Option Clause). option_map_or (λ (c : Clause). next_by c (moment now event)) o (Some now)) (none_speaks policy.clauses e)

-- ---- threads in calls

module _ (policy : Policy) where
  abbrev calling : Thread → Bool
  calling t = is_calling policy t.doing

  pub callers_set : (k : ℕ) (threads : List Thread) (i : ℕ) (t u : Thread) → slice_get threads i ≡ Some t
      → is_calling policy u.doing ≡ is_calling policy t.doing → callers policy k (slice_set threads i u) ≡ callers policy k threads
  callers_set k [] i t u there same = refl
  callers_set k (x ∷ threads) zero t u there same =
      let is : x ≡ t = cc in
      ap (λ (b : Bool). cond b (k ∷ callers policy (suc k) threads) (callers policy (suc k) threads)) (same ∙ ap calling (sym is))
  callers_set k (x ∷ threads) (suc i) t u there same =
      ap (λ (ns : List ℕ). cond (calling x) (k ∷ ns) ns) (callers_set (suc k) threads i t u there same)

  pub callers_more : (k : ℕ) (threads : List Thread) (o : Option Thread) → IfSome o (λ (t : Thread). is_calling policy t.doing ≡ false)
      → callers policy k (threads ++ option_to_list o) ≡ callers policy k threads
  callers_more k [] None h = refl
  callers_more k [] (Some t) h = ap (λ (b : Bool). cond b (k ∷ []) []) h
  callers_more k (x ∷ threads) o h = ap (λ (ns : List ℕ). cond (calling x) (k ∷ ns) ns) (callers_more (suc k) threads o h)

  others_none : (k : ℕ) (x : Thread) (threads : List Thread) → callers policy k (x ∷ threads) ≡ [] → callers policy (suc k) threads ≡ []
  others_none k x threads e = by (calling x) e
    where
      by : (b : Bool) → cond b (k ∷ callers policy (suc k) threads) (callers policy (suc k) threads) ≡ []
          → callers policy (suc k) threads ≡ []
      by true e = absurd cc
      by false e = e

  first_not : (k : ℕ) (x : Thread) (threads : List Thread) → callers policy k (x ∷ threads) ≡ [] → calling x ≡ false
  first_not k x threads e = by (calling x) refl e
    where
      by : (b : Bool) → calling x ≡ b → cond b (k ∷ callers policy (suc k) threads) (callers policy (suc k) threads) ≡ []
          → calling x ≡ false
      by true is e = absurd cc
      by false is e = is

  pub callers_begin : (k : ℕ) (threads : List Thread) (i : ℕ) (t u : Thread) → slice_get threads i ≡ Some t → callers policy k threads ≡ []
      → is_calling policy u.doing ≡ true → callers policy k (slice_set threads i u) ≡ (k + i) ∷ []
  callers_begin k [] i t u there none is = absurd cc
  callers_begin k (x ∷ threads) zero t u there none is =
      let here : k ≡ k + 0 = omega arith in
      let rest : callers policy (suc k) threads ≡ [] = others_none k x threads none in
      ap (λ (b : Bool). cond b (k ∷ callers policy (suc k) threads) (callers policy (suc k) threads)) is
      ∙ ap (λ (ns : List ℕ). k ∷ ns) rest ∙ ap (λ (n : ℕ). n ∷ []) here
  callers_begin k (x ∷ threads) (suc i) t u there none is =
      let on : suc k + i ≡ k + suc i = omega arith in
      let rest : callers policy (suc k) threads ≡ [] = others_none k x threads none in
      ap (λ (b : Bool). cond b (k ∷ callers policy (suc k) (slice_set threads i u)) (callers policy (suc k) (slice_set threads i u)))
      (first_not k x threads none)
      ∙ callers_begin (suc k) threads i t u there rest is ∙ ap (λ (n : ℕ). n ∷ []) on

  pub callers_some : (k : ℕ) (threads : List Thread) (i : ℕ) (t : Thread) → slice_get threads i ≡ Some t → is_calling policy t.doing ≡ true
      → callers policy k threads ≡ [] → ⊥
  callers_some k [] i t there is none = cc
  callers_some k (x ∷ threads) zero t there is none =
      let same : x ≡ t = cc in
      let here : calling x ≡ true = ap calling same ∙ is in
      let e : k ∷ callers policy (suc k) threads ≡ [] = sym
      (ap (λ (b : Bool). cond b (k ∷ callers policy (suc k) threads) (callers policy (suc k) threads)) here) ∙ none in cc
  callers_some k (x ∷ threads) (suc i) t there is none = callers_some (suc k) threads i t there is (others_none k x threads none)

  -- The one thread that is in such a call has this number, and where it is in none no thread is.
  pub callers_end : (k : ℕ) (threads : List Thread) (i m : ℕ) (t u : Thread) → slice_get threads i ≡ Some t
      → is_calling policy t.doing ≡ true
      → is_calling policy u.doing ≡ false → callers policy k threads ≡ m ∷ []
      → (m ≡ k + i) × (callers policy k (slice_set threads i u) ≡ [])
  callers_end k [] i m t u there is over one = absurd cc
  callers_end k (x ∷ threads) zero m t u there is over one =
      let same : x ≡ t = cc in
      let here : calling x ≡ true = ap calling same ∙ is in
      let e : k ∷ callers policy (suc k) threads ≡ m ∷ [] = sym
      (ap (λ (b : Bool). cond b (k ∷ callers policy (suc k) threads) (callers policy (suc k) threads)) here) ∙ one in
      let first : k ≡ m = cc in
      let rest : callers policy (suc k) threads ≡ [] = cc in (
        omega (arith, first),
        ap (λ (b : Bool). cond b (k ∷ callers policy (suc k) threads) (callers policy (suc k) threads)) over ∙ rest,
      )
  callers_end k (x ∷ threads) (suc i) m t u there is over one =
      by (calling x) refl one (callers_some (suc k) threads i t there is) (λ only. callers_end (suc k) threads i m t u there is over only)
    where
      by : (b : Bool) → calling x ≡ b → cond b (k ∷ callers policy (suc k) threads) (callers policy (suc k) threads) ≡ m ∷ []
          → (callers policy (suc k) threads ≡ [] → ⊥)
          → (callers policy (suc k) threads ≡ m ∷ [] → (m ≡ suc k + i) × (callers policy (suc k) (slice_set threads i u) ≡ []))
          → (m ≡ k + suc i) × (callers policy k (slice_set (x ∷ threads) (suc i) u) ≡ [])
      by true e one some later =
          let rest : callers policy (suc k) threads ≡ [] = cc in
          absurd (some rest)
      by false e one some later =
          let l = later one in (
            omega (arith, l.0),
            ap (λ (b : Bool). cond b (k ∷ callers policy (suc k) (slice_set threads i u))
                (callers policy (suc k) (slice_set threads i u))) e ∙ l.1,
          )

-- ---- the lock

module _ (policy : Policy) (state : ℕ) (threads : List Thread) (number : ℕ) (t u : Thread) (there : slice_get threads number ≡ Some t) where
  zero_on : (n : ℕ) → 0 + n ≡ n
  zero_on n = omega arith

  -- A thread begins such a call: the lock is free before, and its own in mode hold.
  pub lock_begins : (mode : Mode) (locks : List Monitor) → (mode ≡ Hold → callers policy 0 threads ≡ [])
      → LockIs state mode (callers policy 0 threads) locks
      → is_calling policy u.doing ≡ true
      → (locks ≡ []) × ((after : List Monitor) → after ≡ held_by state number (is_locked mode)
      → LockIs state mode (callers policy 0 (slice_set threads number u)) after)
  lock_begins Release locks free is calls = (is, λ after e. e)
  lock_begins Hold locks free is calls = (
    subst (λ (ns : List ℕ). LockIs state Hold ns locks) (free refl) is,
    λ after e. subst (λ (ns : List ℕ). LockIs state Hold ns after)
        (sym (callers_begin policy 0 threads number t u there (free refl) calls ∙ ap (λ (n : ℕ). n ∷ []) (zero_on number))) e,
  )

  -- It ends one: the lock is its own before in mode hold, and free after.
  pub lock_ends : (mode : Mode) (locks : List Monitor) → LockIs state mode (callers policy 0 threads) locks
      → is_calling policy t.doing ≡ true
      → is_calling policy u.doing ≡ false
      → (locks ≡ held_by state number (is_locked mode)) × ((after : List Monitor) → after ≡ []
      → LockIs state mode (callers policy 0 (slice_set threads number u)) after)
  lock_ends Release locks is calls over = (is, λ after e. e)
  lock_ends Hold locks is calls over = by (callers policy 0 threads) refl is
    where
      by : (ns : List ℕ) → callers policy 0 threads ≡ ns → LockIs state Hold ns locks
          → (locks ≡ held_by state number true) × ((after : List Monitor) → after ≡ []
          → LockIs state Hold (callers policy 0 (slice_set threads number u)) after)
      by [] e is = absurd (callers_some policy 0 threads number t there calls e)
      by (m ∷ []) e is =
          let c = callers_end policy 0 threads number m t u there calls over e in (
            is ∙ ap (λ (n : ℕ). held_by state n true) (c.0 ∙ zero_on number),
            λ after none. subst (λ (ns : List ℕ). LockIs state Hold ns after) (sym c.1) none,
          )
      by (m ∷ n ∷ ns) e is = absurd is

-- ---- monitors that fail a test twice

pub twice_not : {X : Type 0} (p : X → Bool) (xs : List X) → filter (λ (x : X). not (not (p x))) xs ≡ filter p xs
twice_not p [] = refl
twice_not p (x ∷ xs) = by (p x) (twice_not p xs)
  where
    by : (b : Bool) → filter (λ (y : _). not (not (p y))) xs ≡ filter p xs
        → cond (not (not b)) (x ∷ filter (λ (y : _). not (not (p y))) xs) (filter (λ (y : _). not (not (p y))) xs) ≡ cond b
        (x ∷ filter p xs) (filter p xs)
    by true e = ap (λ (ys : List _). x ∷ ys) e
    by false e = e
