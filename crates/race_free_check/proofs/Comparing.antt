-- What a point tells of a state for which it stands: whether an event is taken there, and whether two turn.
use Rattle.std.proofs.Common.{◌≡◌, ◌⊎◌, inl, inr, Bool, true, false, List, [], ◌∷◌, ◌++◌, Option, Some, None, refl, sym, ap, subst, ◌∙◌, arith}
use Rattle.std.specs.Prelude.{IsSome, is_none, is_some, option_and_then, option_map}
use Rattle.std.specs.Cmp.Lexicographic.{pointwise, pointwise_decides}
use Rattle.std.specs.Option.{option_map_or}
use Rattle.std.specs.Ordering.{int_eq}
use Rattle.std.proofs.lemmas.Bool.{false≢true}
use Rattle.std.proofs.lemmas.Bool.Decides.{Decides-int_eq}
use Rattle.std.proofs.lemmas.Option.{same_Some}
use Rattle.api_listing.specs.declared.events.Event.{Event}
use Rattle.conspec_tree.specs.declared.types.Update.{Update}
use Rattle.conspec_automaton.specs.declared.policy.Branch.{Branch}
use Rattle.conspec_automaton.specs.declared.policy.Clause.{Clause}
use Rattle.conspec_automaton.specs.declared.policy.Policy.{Policy}
use Rattle.conspec_automaton.specs.Events.{IsWellFormed}
use Rattle.conspec_automaton.specs.Next.{Values, clause_of, next, speaks_of}
use Rattle.conspec_automaton.specs.Obeys.{after}
use Rattle.conspec_automaton.specs.Points.{events_of, states_of, updates_in}
use Rattle.conspec_automaton.specs.Range.{in_range}
use Rattle.conspec_automaton.specs.Sound.{IsClauseIn, IsPolicy}
use Rattle.conspec_automaton.specs.Trying.{is_end, is_turned}
use Rattle.race_free_check.proofs.EachChoice.{in_each_choice}
use Rattle.race_free_check.proofs.Choosing.{chosen, chosen_same, next_is, none_once, run_is, run_of, run_same}
use Rattle.race_free_check.proofs.Fitting.{clause_found, tried}
use Rattle.race_free_check.proofs.Likening.{try_event}
use Rattle.race_free_check.proofs.Making.{numbers_of, states_are}
use Rattle.race_free_check.proofs.Members.{Has, found_passes, in_either, of_all}
use Rattle.race_free_check.proofs.Picking.{StandsFor, ends_told, pick_all, stands_sided}
use Rattle.race_free_check.proofs.Sides.{LikeEvents, update_in}
use Rattle.race_free_check.proofs.Updating.{altered}

-- ---- ends

pub same_ends : (xs ys : Values) → pointwise int_eq xs ys ≡ true → xs ≡ ys
same_ends xs ys e = (pointwise_decides Decides-int_eq xs ys).0 e

pub ends_same : (xs ys : Values) → xs ≡ ys → pointwise int_eq xs ys ≡ true
ends_same xs ys e = (pointwise_decides Decides-int_eq xs ys).1 e

-- whether the one run is refused, or both end alike
abbrev pub ends_alike : Values → Option (List Update) → Option (List Update) → Bool
ends_alike state run turned = option_map_or (λ (end : Values). is_end end (option_map (altered state) turned)) (option_map (altered state) run) true

pub turned_is : (policy : Policy) (d c : Clause) (state : Values) (first second : Event) → clause_of policy first ≡ Some d → clause_of policy second ≡ Some c
    → is_turned policy state first second ≡ ends_alike state (run_of d c state first second) (run_of c d state second first)
turned_is policy d c state first second e f =
    ap (λ (o : Option Values). option_map_or (λ (end : Values). is_end end (after (next policy) state (second ∷ first ∷ []))) o true) (run_is policy d c state first second e f)
    ∙ ap (λ (o : Option Values). option_map_or (λ (end : Values). is_end end o) (option_map (altered state) (run_of d c state first second)) true) (run_is policy c d state second first f e)

-- ---- the updates of a run

module _ (cs : List Clause) (d c : Clause) (state : Values) (first second : Event) (hd : Has cs d) (hc : Has cs c) where
  joined_in : (b e : Branch) (us : List Update) → Has d.branches b → Has c.branches e → b.updates ++ e.updates ≡ us → (u : Update) → Has us u → Has (updates_in cs) u
  joined_in b e us hb he same u h = by (in_either b.updates e.updates u (subst (λ (ws : List Update). Has ws u) (sym same) h)) where
    by : Has b.updates u ⊎ Has e.updates u → Has (updates_in cs) u
    by (inl k) = update_in cs d b u hd hb k
    by (inr k) = update_in cs c e u hc he k

  second_in : (b : Branch) (us : List Update) → Has d.branches b → option_map (λ (e : Branch). b.updates ++ e.updates) (chosen c (altered state b.updates) second) ≡ Some us → (u : Update) → Has us u → Has (updates_in cs) u
  second_in b us hb some = by (chosen c (altered state b.updates) second) refl some where
    by : (o : Option Branch) → chosen c (altered state b.updates) second ≡ o → option_map (λ (e : Branch). b.updates ++ e.updates) o ≡ Some us → (u : Update) → Has us u → Has (updates_in cs) u
    by None found e = absurd cc
    by (Some branch) found e = joined_in b branch us hb (found_passes _ c.branches branch found).there (same_Some (b.updates ++ branch.updates) us e)

  run_in : (us : List Update) → run_of d c state first second ≡ Some us → (u : Update) → Has us u → Has (updates_in cs) u
  run_in us some = by (chosen d state first) refl some where
    by : (o : Option Branch) → chosen d state first ≡ o → option_and_then (λ (b : Branch). option_map (λ (e : Branch). b.updates ++ e.updates) (chosen c (altered state b.updates) second)) o ≡ Some us → (u : Update) → Has us u → Has (updates_in cs) u
    by None found e = absurd cc
    by (Some branch) found e = second_in branch us (found_passes _ d.branches branch found).there e

-- ---- a state and its point

module _ (policy : Policy) (sound : IsPolicy policy) (state : Values) (ranged : in_range policy state ≡ true) where
  pub record PointFor (cs : List Clause) (us vs : List Update) : Type 0 where
    pub point : Values
    pub there : Has (states_of policy cs) point
    pub stands : StandsFor policy.maxint cs us vs state point

  point_for : (cs : List Clause) (us vs : List Update) → ((u : Update) → Has us u ⊎ Has vs u → Has (updates_in cs) u) → PointFor cs us vs
  point_for cs us vs inside =
      let picked = pick_all policy.maxint cs us vs inside policy.vars 0 state ranged in
      record {
        point = picked.point;
        there = subst (λ (states : List Values). Has states picked.point) (sym (states_are policy cs)) (in_each_choice (numbers_of policy cs) picked.point picked.choice);
        stands = λ i. picked.stands i i (omega arith);
      }

  sound_clause : (c : Clause) → Has policy.clauses c → IsClauseIn policy.vars policy.maxint c
  sound_clause c h = of_all _ policy.clauses c sound.clauses h

  -- an event that is tried for another, and has its clause
  pub record EventFor (c : Clause) (event : Event) : Type 0 where
    pub other : Event
    pub there : Has (events_of c) other
    pub like : LikeEvents c event other
    pub found : clause_of policy other ≡ Some c

  event_for : (c : Clause) (event : Event) → clause_of policy event ≡ Some c → IsWellFormed policy event → EventFor c event
  event_for c event found formed =
      let passes = found_passes (speaks_of event) policy.clauses c found in
      let m = try_event policy.vars policy.maxint c (sound_clause c passes.there) event passes.passes (formed c found) in
      record { other = m.item; there = m.there; like = m.so; found = clause_found policy sound c m.item passes.there (tried c m.item m.there).speaks }

  -- ---- one event

  module _ (c : Clause) (event : Event) (found : clause_of policy event ≡ Some c) (formed : IsWellFormed policy event) where
    one_sound : (d : Clause) → Has (c ∷ []) d → IsClauseIn policy.vars policy.maxint d
    one_sound d (inl same) = subst (λ (x : Clause). IsClauseIn policy.vars policy.maxint x) same (sound_clause c (found_passes (speaks_of event) policy.clauses c found).there)
    one_sound d (inr none) = absurd none

    taken_by : (p : PointFor (c ∷ []) [] []) (e : EventFor c event) → is_none (next policy p.point e.other) ≡ false → is_some (next policy state event) ≡ true
    taken_by p e passes =
        let same : chosen c state event ≡ chosen c p.point e.other = chosen_same policy (c ∷ []) one_sound state p.point (stands_sided policy.maxint (c ∷ []) [] [] state p.point p.stands) [] (none_once (c ∷ [])) c event e.other (inl refl) e.like in
        let here : next policy state event ≡ option_map (λ (b : Branch). altered state b.updates) (chosen c state event) = next_is policy c state event found in
        let there : next policy p.point e.other ≡ option_map (λ (b : Branch). altered p.point b.updates) (chosen c state event) = next_is policy c p.point e.other e.found ∙ ap (option_map (λ (b : Branch). altered p.point b.updates)) (sym same) in
        by (chosen c state event) here there where
          by : (o : Option Branch) → next policy state event ≡ option_map (λ (b : Branch). altered state b.updates) o → next policy p.point e.other ≡ option_map (λ (b : Branch). altered p.point b.updates) o → is_some (next policy state event) ≡ true
          by None here there = absurd (false≢true (sym passes ∙ ap is_none there))
          by (Some b) here there = ap is_some here

    -- an event is taken where those that are tried are
    pub taken_of : ((point : Values) (other : Event) → Has (states_of policy (c ∷ [])) point → Has (events_of c) other → is_none (next policy point other) ≡ false) → IsSome (next policy state event)
    taken_of all =
        let p = point_for (c ∷ []) [] [] nothing in
        let e = event_for c event found formed in
        taken_by p e (all p.point e.other p.there e.there) where
          nothing : (u : Update) → Has {X = Update} [] u ⊎ Has {X = Update} [] u → Has (updates_in (c ∷ [])) u
          nothing u (inl h) = absurd h
          nothing u (inr h) = absurd h

  -- ---- two events

  module _ (d c : Clause) (first second : Event) (d_found : clause_of policy first ≡ Some d) (c_found : clause_of policy second ≡ Some c) (d_formed : IsWellFormed policy first) (c_formed : IsWellFormed policy second) where
    two_sound : (x : Clause) → Has (d ∷ c ∷ []) x → IsClauseIn policy.vars policy.maxint x
    two_sound x (inl same) = subst (λ (x : Clause). IsClauseIn policy.vars policy.maxint x) same (sound_clause d (found_passes (speaks_of first) policy.clauses d d_found).there)
    two_sound x (inr (inl same)) = subst (λ (x : Clause). IsClauseIn policy.vars policy.maxint x) same (sound_clause c (found_passes (speaks_of second) policy.clauses c c_found).there)
    two_sound x (inr (inr none)) = absurd none

    -- a point that stands for the state, at which the runs of the state end alike
    record Ending (us vs : List Update) : Type 0 where
      pub point : Values
      pub stands : StandsFor policy.maxint (d ∷ c ∷ []) us vs state point
      pub alike : ends_alike point (run_of d c state first second) (run_of c d state second first) ≡ true

    ending : (us vs : List Update) → ((u : Update) → Has us u ⊎ Has vs u → Has (updates_in (d ∷ c ∷ [])) u)
        → ((point : Values) (e f : Event) → Has (states_of policy (d ∷ c ∷ [])) point → Has (events_of d) e → Has (events_of c) f → is_turned policy point e f ≡ true) → Ending us vs
    ending us vs inside all =
        let p = point_for (d ∷ c ∷ []) us vs inside in
        let e = event_for d first d_found d_formed in
        let f = event_for c second c_found c_formed in
        let sided = stands_sided policy.maxint (d ∷ c ∷ []) us vs state p.point p.stands in
        let one = run_same policy (d ∷ c ∷ []) two_sound state p.point sided d c first e.other second f.other (inl refl) (inr (inl refl)) e.like f.like in
        let other = run_same policy (d ∷ c ∷ []) two_sound state p.point sided c d second f.other first e.other (inr (inl refl)) (inl refl) f.like e.like in
        let turned = sym (turned_is policy d c p.point e.other f.other e.found f.found) ∙ all p.point e.other f.other p.there e.there f.there in
        record { point = p.point; stands = p.stands; alike = rw (one, other) turned }

    -- two events turn where those that are tried do
    pub turned_of : ((point : Values) (e f : Event) → Has (states_of policy (d ∷ c ∷ [])) point → Has (events_of d) e → Has (events_of c) f → is_turned policy point e f ≡ true) → is_turned policy state first second ≡ true
    turned_of all = turned_is policy d c state first second d_found c_found ∙ by (run_of d c state first second) refl (run_of c d state second first) refl where
      by : (o : Option (List Update)) → run_of d c state first second ≡ o → (p : Option (List Update)) → run_of c d state second first ≡ p → ends_alike state (run_of d c state first second) (run_of c d state second first) ≡ true
      by None e p f = rw e refl
      by (Some us) e None f =
          let found = ending us [] inside all in
          let no : false ≡ true = rw (e, f) at found.alike in
          absurd (false≢true no) where
            inside : (u : Update) → Has us u ⊎ Has {X = Update} [] u → Has (updates_in (d ∷ c ∷ [])) u
            inside u (inl h) = run_in (d ∷ c ∷ []) d c state first second (inl refl) (inr (inl refl)) us e u h
            inside u (inr h) = absurd h
      by (Some us) e (Some vs) f =
          let found = ending us vs inside all in
          let same : pointwise int_eq (altered found.point us) (altered found.point vs) ≡ true = rw (e, f) at found.alike in
          let ends = ends_told policy.maxint (d ∷ c ∷ []) us vs state found.point found.stands (same_ends (altered found.point us) (altered found.point vs) same) in
          rw (e, f) (ends_same (altered state us) (altered state vs) ends) where
            inside : (u : Update) → Has us u ⊎ Has vs u → Has (updates_in (d ∷ c ∷ [])) u
            inside u (inl h) = run_in (d ∷ c ∷ []) d c state first second (inl refl) (inr (inl refl)) us e u h
            inside u (inr h) = run_in (d ∷ c ∷ []) c d state second first (inr (inl refl)) (inl refl) vs f u h
