-- Runs of a client that a policy accepts. (docs/TRANSPARENCY.md)
use Rattle.std.specs.Prelude.{◌≡◌, ⊤, Bool, false, true, filter, List, [], ◌∷◌, Some}
use Rattle.api_listing.specs.declared.events.Event.{Event}
use Rattle.api_listing.specs.declared.events.Event.TheVariants as events
use Rattle.cert_format.specs.declared.certificate.Mode.{Mode}
use Rattle.cert_format.specs.declared.certificate.Mode.TheVariants.{Hold, Release}
use Rattle.bytecode_model.specs.declared.program.Program.{Program}
use Rattle.conspec_automaton.specs.declared.policy.Policy.{Policy}
use Rattle.conspec_automaton.specs.Next.{Values, has_clauses, initial, method_of, next}
use Rattle.conspec_automaton.specs.Obeys.{after, spoken}
use Rattle.guest_model.specs.declared.machine.Step.{Step}
use Rattle.guest_model.specs.Runs.{start_of, trace}
use Rattle.guest_erasing.specs.Runs.{AreMadeFrom}

-- what is seen of methods with clauses
abbrev pub with_clauses : Policy → List Event → List Event
with_clauses policy seen = filter (λ (e : Event). has_clauses policy (method_of e)) seen

-- Each call ends before the next begins, once the one that is under way at first, if one is, has ended.
abbrev pub Alternate : Bool → List Event → Type 0
Alternate under_way [] = ⊤
Alternate under_way (events.Call thread method arguments ∷ seen) = (under_way ≡ false) × Alternate true seen
Alternate under_way (events.Return thread method value ∷ seen) = Alternate false seen
Alternate under_way (events.Except thread method ∷ seen) = Alternate false seen

-- In mode hold calls of methods with clauses do not overlap.
abbrev pub AreApart : Mode → Policy → List Event → Type 0
AreApart Release policy seen = ⊤
AreApart Hold policy seen = Alternate false (with_clauses policy seen)

-- Each step is made; of the events those that the policy has clauses for are accepted one after another, and leave it in this state;
-- and in mode hold calls of methods with clauses do not overlap.
pub record IsAcceptedRun (policy : Policy) (mode : Mode) (client : Program) (steps : List Step) (end : Values) : Type 0 where
  pub made : AreMadeFrom client (start_of client) steps
  pub accepted : after (next policy) (initial policy) (spoken policy (trace client steps)) ≡ Some end
  pub apart : AreApart mode policy (trace client steps)
