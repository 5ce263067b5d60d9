-- Lists of events, over any automaton.
use Rattle.std.proofs.Common.{◌≡◌, Bool, List, [], ◌∷◌, ◌++◌, Option, Some, None, refl, subst, IsTrue}
use Rattle.std.specs.Prelude.{option_and_then}
use Rattle.conspec_automaton.specs.Obeys.{after}
use Rattle.conspec_automaton.specs.Turning.{Keeps}

module _ {S E : Type 0} (next : S → E → Option S) where
  pub runs_join : (state : S) (first second : List E) → after next state (first ++ second) ≡ option_and_then (λ reached. after next reached second) (after next state first)
  runs_join state [] second = refl
  runs_join state (event ∷ first) second = by (next state event) (λ reached. runs_join reached first second) where
    by : (o : Option S) → ((reached : S) → after next reached (first ++ second) ≡ option_and_then (λ last. after next last second) (after next reached first))
        → option_and_then (λ reached. after next reached (first ++ second)) o ≡ option_and_then (λ reached. after next reached second) (option_and_then (λ reached. after next reached first) o)
    by None each = refl
    by (Some reached) each = each reached

  pub run_keeps : (in_range : S → Bool) → Keeps next in_range → (state end : S) (events : List E) → IsTrue (in_range state) → after next state events ≡ Some end → IsTrue (in_range end)
  run_keeps in_range keeps state end [] r e =
      let same : state ≡ end = cc in
      subst (λ (s : S). IsTrue (in_range s)) same r
  run_keeps in_range keeps state end (event ∷ events) r e = by (next state event) refl e (λ reached. run_keeps in_range keeps reached end events) where
    by : (o : Option S) → next state event ≡ o → option_and_then (λ reached. after next reached events) o ≡ Some end → ((reached : S) → IsTrue (in_range reached) → after next reached events ≡ Some end → IsTrue (in_range end)) → IsTrue (in_range end)
    by None is h each = absurd cc
    by (Some reached) is h each = each reached (keeps state reached event r is) h
