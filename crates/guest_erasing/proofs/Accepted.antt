-- What a policy has no clause for changes nothing.
use Rattle.std.proofs.Common.{◌≡◌, ◌∙◌, ℕ, Bool, true, false, cond, List, [], ◌∷◌, Option, Some, None, refl, sym, ap}
use Rattle.std.specs.Prelude.{option_and_then}
use Rattle.api_listing.specs.declared.events.Event.{Event}
use Rattle.conspec_automaton.specs.declared.policy.Clause.{Clause}
use Rattle.conspec_automaton.specs.declared.policy.Policy.{Policy}
use Rattle.conspec_automaton.specs.Next.{Values, clause_of, has_clause, next}
use Rattle.conspec_automaton.specs.Obeys.{after, spoken}

pub spoken_alone : (policy : Policy) (seen : List Event) (now : Values)
    → after (next policy) now (spoken policy seen) ≡ after (next policy) now seen
spoken_alone policy [] now = refl
spoken_alone policy (event ∷ seen) now = by (clause_of policy event) refl (spoken_alone policy seen) where
  by : (o : Option Clause) → clause_of policy event ≡ o
      → ((reached : Values) → after (next policy) reached (spoken policy seen) ≡ after (next policy) reached seen)
      → after (next policy) now (spoken policy (event ∷ seen)) ≡ after (next policy) now (event ∷ seen)
  by None e rest = rw e (rest now)
  by (Some clause) e rest = ap (after (next policy) now) kept ∙ through (next policy now event) where
    kept : spoken policy (event ∷ seen) ≡ event ∷ spoken policy seen
    kept = rw e refl

    through : (o : Option Values)
        → option_and_then (λ reached. after (next policy) reached (spoken policy seen)) o ≡ option_and_then (λ reached. after (next policy) reached seen) o
    through None = refl
    through (Some reached) = rest reached
