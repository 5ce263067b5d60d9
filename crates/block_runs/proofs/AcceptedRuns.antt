-- Runs of a typed client that the policy accepts, lifted: they start alike, each step is allowed, and so all are lifted.
use Rattle.std.proofs.Common.{◌≡◌, ◌∙◌, ℕ, List, [], ◌∷◌, ◌++◌, length, map, Option, Some, None, refl, sym, ap, subst}
use Rattle.std.specs.Prelude.{IfSome, slice_get}
use Rattle.std.specs.List.{AllByRecursion}
use Rattle.std.specs.Option.{IsSomeAnd, option_to_list}
use Rattle.std.proofs.lemmas.List.{length-map}
use Rattle.mon_base.proofs.Lists.{get_pushed}
use Rattle.api_listing.specs.declared.events.Event.{Event}
use Rattle.cert_format.specs.declared.certificate.Mode.{Mode}
use Rattle.cert_format.specs.declared.certificate.Mode.TheVariants.{Hold, Release}
use Rattle.cert_format.specs.declared.typing.Typing.{Typing}
use Rattle.bytecode_model.specs.declared.program.Program.{Program}
use Rattle.conspec_automaton.specs.declared.policy.Policy.{Policy}
use Rattle.conspec_automaton.specs.Next.{Values, initial, next}
use Rattle.conspec_automaton.specs.Obeys.{after}
use Rattle.conspec_automaton.specs.Sound.{IsPolicy}
use Rattle.conspec_automaton.proofs.Ranges.{firsts_in_range}
use Rattle.guest_heap.specs.declared.value.Value.{Value}
use Rattle.guest_heap.specs.declared.value.Value.TheVariants as values
use Rattle.guest_model.specs.declared.machine.Machine.{Machine}
use Rattle.guest_model.specs.declared.machine.Step.{Step}
use Rattle.guest_model.specs.Changes.{rests}
use Rattle.guest_model.specs.Finding.{Given}
use Rattle.guest_model.specs.Layout.{statics_of}
use Rattle.guest_model.specs.Runs.{exec, initialisers, start_of, stepped_or_same, trace, trace_from}
use Rattle.guest_model.specs.Stepping.{stepped}
use Rattle.guest_model.proofs.Options.{and_then_of, some_is}
use Rattle.guest_erasing.specs.Lifting.{lifted}
use Rattle.guest_erasing.specs.Mirrors.{IsClientMachine, MirrorsAreErased}
use Rattle.guest_erasing.specs.Runs.{AreMadeFrom, GoOn}
use Rattle.guest_erasing.proofs.Accepted.{spoken_alone}
use Rattle.guest_erasing.proofs.Runs.{comes_to, exec_from-append, sees}
use Rattle.typed_runs.specs.Formed.{TellsTypes}
use Rattle.block_runs.specs.ClientRuns.{AcceptedRunsAreLifted}
use Rattle.block_runs.specs.Clients.{ClientsAreRoomy, ClientsFit, ClientsKeepTheirMachine, ClientsStartAlike, IsTypedClient}
use Rattle.block_runs.specs.Joining.{Accepts, IsAllowed, IsWovenBy, LockIs, MayBegin, MirrorsIn, RunsAreLifted, StartsWait, StepFits, callers, sites, state_of}
use Rattle.block_runs.specs.WovenClients.{IsLinkedClient, StartsInFirst, WovenClientsAreKnown, WovenStartsInFirst}
use Rattle.block_runs.proofs.Clients.Apart.{BeginApart, begin_apart}

-- ---- the start

module _ (policy : Policy) (client : Program) where
  rest_apart : (to_begin : List Given) → callers policy 0 (rests client to_begin ∷ []) ≡ []
  rest_apart [] = refl
  rest_apart (next ∷ to_begin) = refl

  lock_free : (mode : Mode) (number : ℕ) (numbers : List ℕ) → numbers ≡ [] → LockIs number mode numbers []
  lock_free Release number numbers none = refl
  lock_free Hold number numbers none = subst (λ (ns : List ℕ). LockIs number Hold ns []) (sym none) refl

start_in_first : ClientsStartAlike → (policy : Policy) (mode : Mode) (client woven : Program) (typing : Typing)
    → IsTypedClient client typing → IsPolicy policy → StartsInFirst policy mode client woven
    → MirrorsIn policy mode client woven (initial policy) (start_of client) (start_of woven)
start_in_first alike policy mode client woven typing is read starts =
    let told : List Value = map values.Int (initial policy) in
    let many : length client.classes ≡ length (statics_of client) = sym (length-map client.classes _) in
    record {
      mirrors = alike client typing is (sites policy mode) woven starts.adds (record { told = told; statics = starts.statics });
      fields =
          ap (λ (all : List (List Value)). slice_get all (length client.classes)) starts.statics
          ∙ get_pushed (statics_of client) told (length client.classes) many;
      ranged = firsts_in_range policy.maxint policy.vars read.vars;
      lock =
          lock_free policy client mode (state_of client).number (callers policy 0 (start_of client).threads)
          (rest_apart policy client (initialisers client ++ (client.main_class, client.main_method) ∷ []));
    }

-- ---- steps that are allowed

-- the state after an event, if there is one, and after those that follow
accepted : (policy : Policy) (now end : Values) (event : Option Event) (others : List Event)
    → after (next policy) now (option_to_list event ++ others) ≡ Some end
    → (new : Values) × Accepts policy now event new × (after (next policy) new others ≡ Some end)
accepted policy now end None others e = (now, refl, e)
accepted policy now end (Some event) others e =
    and_then_of (λ (reached : Values). after (next policy) reached others) (next policy now event) end e

module _ (keep : ClientsKeepTheirMachine) (fit : ClientsFit) (policy : Policy) (mode : Mode) (client : Program) (typing : Typing)
    (is : IsTypedClient client typing) (tells : AllByRecursion (TellsTypes client.listing) policy.clauses) where
  abbrev Goes : Values → Machine → List Step → Values → Type 0
  Goes = GoOn (IsAllowed policy mode client) client

  -- The steps after others are allowed, one after another.
  abbrev GoOnAfter : List Step → Values → List Step → Type 0
  GoOnAfter done end steps =
      (machine : Machine) → machine ≡ exec client done → (now : Values) → AreMadeFrom client machine steps
      → after (next policy) now (trace_from client machine steps) ≡ Some end → BeginApart policy mode client machine steps
      → Goes now machine steps end

  pub go_on : (steps done : List Step) (end : Values) → GoOnAfter done end steps
  go_on [] done end machine at now made ends apart = some_is now end ends
  go_on (step ∷ steps) done end machine at now made ends apart =
      by (stepped client machine step) refl made apart (go_on steps (done ++ step ∷ []) end)
    where
      by : (o : Option (Machine × Option Event)) → stepped client machine step ≡ o
          → IsSomeAnd o (λ (m : Machine × Option Event). AreMadeFrom client m.0 steps)
          → IfSome o (λ (m : Machine × Option Event). MayBegin policy mode m.1 machine.threads × BeginApart policy mode client m.0 steps)
          → GoOnAfter (done ++ step ∷ []) end steps → Goes now machine (step ∷ steps) end
      by None e made apart later = absurd made
      by (Some came) e made apart later =
          let comes = comes_to client machine step came e in
          let events : trace_from client machine (step ∷ steps) ≡ option_to_list came.1 ++ trace_from client came.0 steps =
          ap (λ (es : List Event). es ++ trace_from client (stepped_or_same client machine step) steps) (sees client machine step came e)
          ∙ ap (λ (m : Machine). option_to_list came.1 ++ trace_from client m steps) comes in
          let a = accepted policy now end came.1 (trace_from client came.0 steps)
          (subst (λ (es : List Event). after (next policy) now es ≡ Some end) events ends) in
          let here : came.0 ≡ exec client (done ++ step ∷ []) =
          sym comes ∙ ap (λ (m : Machine). stepped_or_same client m step) at ∙ sym
          (exec_from-append client (start_of client) done (step ∷ [])) in
          let allowed : IsAllowed policy mode client now machine step came a.0 = record {
            ours = subst (IsClientMachine client) (sym at) (keep client typing is done);
            fits = subst (λ (m : Machine). stepped client m step ≡ Some came → StepFits policy client m step came) (sym at)
                (fit client typing is policy tells done step came) e;
            accepts = a.1;
            begins = apart.0;
          } in
          (came, (e, (a.0, (allowed, later came.0 here a.0 made a.2 apart.1))))

-- ---- the law

module _ (roomy : ClientsAreRoomy) (keep : ClientsKeepTheirMachine) (fit : ClientsFit) (alike : ClientsStartAlike)
    (known_so : WovenClientsAreKnown) (begins : WovenStartsInFirst) (waits : StartsWait) (lift : RunsAreLifted)
    (erase : MirrorsAreErased) where
  pub accepted_lifted : AcceptedRunsAreLifted
  accepted_lifted policy mode client woven typing is tells constants made steps end run =
      let linked : IsLinkedClient client = record { links = is.program.links; original = is.original } in
      let known : IsWovenBy policy mode client woven = known_so policy mode client woven linked made in
      let starts : StartsInFirst policy mode client woven = begins policy mode client woven linked constants made in
      let apart =
      begin_apart client policy known.called mode steps (start_of client)
      (rest_apart policy client (initialisers client ++ (client.main_class, client.main_method) ∷ [])) run.apart in
      let goes = go_on keep fit policy mode client typing is tells steps [] end (start_of client) refl
      (initial policy) run.made (sym (spoken_alone policy (trace client steps) (initial policy)) ∙ run.accepted) apart in
      let l = lift policy mode client woven known (roomy client typing is) steps (initial policy) end (start_of client) (start_of woven)
      (start_in_first alike policy mode client woven typing is made.policy_is starts) (waits client) goes in
      let mirrors : MirrorsIn policy mode client woven end (exec client steps)
      (exec woven (lifted (sites policy mode) client woven steps)) =
      subst (MirrorsIn policy mode client woven end (exec client steps)) (sym l.ran.comes) l.mirrors in
      record {
        made = l.ran.made;
        seen = l.ran.seen;
        same =
            erase (sites policy mode) client woven (exec client steps)
            (exec woven (lifted (sites policy mode) client woven steps)) mirrors.mirrors;
        mirrors = mirrors;
      }
