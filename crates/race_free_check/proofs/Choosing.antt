-- Alike states and events choose the same branches, one event after the other too.
use Rattle.std.proofs.Common.{◌≡◌, inl, ℕ, List, [], ◌∷◌, ◌++◌, Option, Some, None, refl, sym, ap, ◌∙◌}
use Rattle.std.specs.Prelude.{find, option_and_then, option_map}
use Rattle.api_listing.specs.declared.events.Event.{Event}
use Rattle.conspec_tree.specs.declared.types.Update.{Update}
use Rattle.conspec_automaton.specs.declared.policy.Branch.{Branch}
use Rattle.conspec_automaton.specs.declared.policy.Clause.{Clause}
use Rattle.conspec_automaton.specs.declared.policy.Policy.{Policy}
use Rattle.conspec_automaton.specs.Next.{Values, clause_of, holds, is_taken, moment, next, next_by, updated, value_of}
use Rattle.conspec_automaton.specs.Obeys.{after}
use Rattle.conspec_automaton.specs.Points.{updates_in}
use Rattle.conspec_automaton.specs.Sound.{IsClauseIn}
use Rattle.race_free_check.proofs.Members.{Has, found_passes, of_all, same_all, same_found}
use Rattle.race_free_check.proofs.Moves.{Move}
use Rattle.race_free_check.proofs.Sides.{AreOnce, LikeEvents, Sided, atom_in, atom_meets, compares_same, update_in}
use Rattle.race_free_check.proofs.Updating.{IsOnce, added, altered, altered_twice, moves, moves_once, set, untouched, updated_alters}

-- ---- chosen branches

-- the branch that is taken
abbrev pub chosen : Clause → Values → Event → Option Branch
chosen clause state event = find (is_taken (moment state event)) clause.branches

-- the updates of both branches, of two events in a row
abbrev pub run_of : Clause → Clause → Values → Event → Event → Option (List Update)
run_of d c state first second =
    option_and_then (λ (b : Branch). option_map (λ (e : Branch). b.updates ++ e.updates) (chosen c (altered state b.updates) second)) (chosen d state first)

module _ (policy : Policy) where
  by_altering : (d : Clause) (state : Values) (event : Event) → next_by d (moment state event) ≡ option_map (λ (b : Branch). altered state b.updates) (chosen d state event)
  by_altering d state event = by (chosen d state event) where
    by : (o : Option Branch) → option_map (λ (b : Branch). updated (moment state event) b.updates) o ≡ option_map (λ (b : Branch). altered state b.updates) o
    by None = refl
    by (Some b) = ap Some (updated_alters event b.updates state)

  pub next_is : (d : Clause) (state : Values) (event : Event) → clause_of policy event ≡ Some d → next policy state event ≡ option_map (λ (b : Branch). altered state b.updates) (chosen d state event)
  next_is d state event e = rw e (by_altering d state event)

  -- two events in a row are two chosen branches and their updates
  pub run_is : (d c : Clause) (state : Values) (first second : Event) → clause_of policy first ≡ Some d → clause_of policy second ≡ Some c
      → after (next policy) state (first ∷ second ∷ []) ≡ option_map (altered state) (run_of d c state first second)
  run_is d c state first second e f =
      ap (λ (o : Option Values). option_and_then (λ reached. after (next policy) reached (second ∷ [])) o) (next_is d state first e) ∙ by (chosen d state first) where
        then_by : (us : List Update) (o : Option Branch)
            → option_and_then (λ (reached : Values). Some reached) (option_map (λ (b : Branch). altered (altered state us) b.updates) o) ≡ option_map (altered state) (option_map (λ (b : Branch). us ++ b.updates) o)
        then_by us None = refl
        then_by us (Some b) = ap Some (sym (altered_twice state us b.updates))

        by : (o : Option Branch)
            → option_and_then (λ (reached : Values). after (next policy) reached (second ∷ [])) (option_map (λ (b : Branch). altered state b.updates) o)
            ≡ option_map (altered state) (option_and_then (λ (b : Branch). option_map (λ (e : Branch). b.updates ++ e.updates) (chosen c (altered state b.updates) second)) o)
        by None = refl
        by (Some b) =
            ap (λ (o : Option Values). option_and_then (λ (reached : Values). Some reached) o) (next_is c (altered state b.updates) second f) ∙ then_by b.updates (chosen c (altered state b.updates) second)

-- ---- updates of branches

wider : (us vs : List Update) (i : ℕ) (m : Move) → ((u : Update) → Has us u → Has vs u) → IsOnce us i m → IsOnce vs i m
wider us vs i m each untouched = untouched
wider us vs i m each (set c) = set c
wider us vs i m each (added n h) = added n (each _ h)

pub none_once : (cs : List Clause) → AreOnce cs []
none_once cs i = untouched

module _ (policy : Policy) (cs : List Clause) (sound : (c : Clause) → Has cs c → IsClauseIn policy.vars policy.maxint c) where
  pub branch_once : (c : Clause) (b : Branch) → Has cs c → Has c.branches b → AreOnce cs b.updates
  branch_once c b hc hb i =
      let is = of_all _ c.branches b (sound c hc).branches hb in
      wider b.updates (updates_in cs) i (moves b.updates i) (λ u hu. update_in cs c b u hc hb hu) (moves_once b.updates i is.once)

  -- ---- alike states

  module _ (s p : Values) (sided : Sided policy.maxint cs s p) where
    taken_same : (us : List Update) → AreOnce cs us → (c : Clause) (b : Branch) (e f : Event) → Has cs c → Has c.branches b → LikeEvents c e f → is_taken (moment (altered s us) e) b ≡ is_taken (moment (altered p us) f) b
    taken_same us once c b e f hc hb like =
        same_all (holds (moment (altered s us) e)) (holds (moment (altered p us) f)) b.atoms
        (λ a ha. compares_same a.rel a.value (value_of (moment (altered s us) e) a.base) (value_of (moment (altered p us) f) a.base)
        (atom_meets policy.maxint cs s p sided us once a e f (atom_in cs c b a hc hb ha) (like a (atom_in (c ∷ []) c b a (inl refl) hb ha))))

    pub chosen_same : (us : List Update) → AreOnce cs us → (c : Clause) (e f : Event) → Has cs c → LikeEvents c e f → chosen c (altered s us) e ≡ chosen c (altered p us) f
    chosen_same us once c e f hc like =
        same_found (is_taken (moment (altered s us) e)) (is_taken (moment (altered p us) f)) c.branches (λ b hb. taken_same us once c b e f hc hb like)

    -- the branches of two events in a row
    pub run_same : (d c : Clause) (e f g h : Event) → Has cs d → Has cs c → LikeEvents d e f → LikeEvents c g h → run_of d c s e g ≡ run_of d c p f h
    run_same d c e f g h hd hc first second =
        rw (chosen_same [] (none_once cs) d e f hd first) (by (chosen d p f) refl) where
          by : (o : Option Branch) → chosen d p f ≡ o
              → option_and_then (λ (b : Branch). option_map (λ (e : Branch). b.updates ++ e.updates) (chosen c (altered s b.updates) g)) o
              ≡ option_and_then (λ (b : Branch). option_map (λ (e : Branch). b.updates ++ e.updates) (chosen c (altered p b.updates) h)) o
          by None found = refl
          by (Some b) found =
              let there = (found_passes (is_taken (moment p f)) d.branches b found).there in
              ap (option_map (λ (e : Branch). b.updates ++ e.updates)) (chosen_same b.updates (branch_once d b hd there) c g h hc second)
