-- The steps of `lift`, and what it finds of the client and of what is woven of it.
use Rattle.std.proofs.Common.{◌≡◌, ◌∙◌, ℕ, List, Result, Ok, Err, inl, inr, sym, ap, subst}
use Rattle.command_inputs.specs.Forms.{Then}
use Rattle.mon_base.proofs.Reading.{ok_is}
use Rattle.block_runs.specs.WovenClients.{WovenClientsHaveRoom}
use Rattle.block_template.specs.Blocks.{plan_of}
use Rattle.bytecode_model.specs.declared.program.Program.{Program}
use Rattle.bytecode_model.specs.Typed.{IsTyped}
use Rattle.class_linking.specs.Laws.{LinkedAreNamed, LinkedIsInOrder}
use Rattle.class_weaving.specs.declared.woven.Woven.{Woven}
use Rattle.class_weaving.specs.Outcome.{IsWoven}
use Rattle.command_inputs.specs.declared.inline_inputs.InlineInputs.{InlineInputs}
use Rattle.command_inputs.specs.declared.inline_words.Weaving.{Weaving}
use Rattle.command_inputs.specs.declared.inline_words.Weaving.TheVariants.{Auto}
use Rattle.command_inputs.specs.declared.lift_inputs.LiftInputs.{LiftInputs}
use Rattle.command_inputs.specs.InlineInputs.{InlineSound}
use Rattle.command_inputs.specs.LiftInputs.{LiftSound}
use Rattle.cert_format.specs.declared.certificate.Mode.{Mode}
use Rattle.conspec_automaton.specs.declared.policy.Policy.{Policy}
use Rattle.conspec_automaton.specs.Building.{built}
use Rattle.conspec_tree.specs.declared.types.PolicyTree.{PolicyTree}
use Rattle.guest_model.specs.declared.machine.Step.{Step as GuestStep}
use Rattle.guest_model.specs.Ready.{IsReady}
use Rattle.guest_model.specs.Runs.{exec, start_of}
use Rattle.guest_replay.specs.Replaying.{ReplaysAreRuns}
use Rattle.guest_runner.proofs.Traces.{trace_is}
use Rattle.lift_schedule.specs.declared.fault.LiftFault.{LiftFault}
use Rattle.lift_schedule.specs.declared.lifting.Lifted.{Lifted}
use Rattle.lift_schedule.specs.Laws.{IsLiftOf, LiftsAreTold, TellsLift, steps_of}
use Rattle.lift_schedule.specs.Lifting.{lift_of}
use Rattle.typed_runs.specs.Programs.{IsLinkedProgram}
use Rattle.inliner_tool.specs.declared.inline.Given.{Given}
use Rattle.inliner_tool.specs.declared.refusal.Ended.{Ended}
use Rattle.inliner_tool.specs.Expected.{IsExpected, IsMadeOf, woven_program}
use Rattle.inliner_tool.specs.Lift.{CanLift, LiftsAreRuns, LiftsOver, LiftsText, LiftsTyped, events_told, inline_inputs, lift_told, lifted_text}
use Rattle.inliner_tool.specs.Replay.{steps_told}
use Rattle.inliner_tool.specs.Programs.{Types, woven_links}
use Rattle.inliner_tool.specs.Steps.{Equals, Step, UnlessMemory}
use Rattle.inliner_tool.specs.Weaving.{Gathers, IsGathered, mode_for, original}
use Rattle.inliner_tool.proofs.Blocks.{same_program}
use Rattle.inliner_tool.proofs.Planning.{later}
use Rattle.inliner_tool.proofs.Runs.{lines_replayed}
use Rattle.inliner_tool.proofs.Transparent.{client_linked, client_original, woven_client}

-- ---- the steps

module _ (main : List ℕ) (inputs : LiftInputs) (client : Program) (links : Equals (original inputs.listing inputs.classes main) (Ok client)) where
  abbrev over : Program → Step (List ℕ) → Type 0
  over = LiftsTyped inputs.policy inputs.recorded.steps

  -- nothing is to be woven
  pub given_fails : (e : Ended) → UnlessMemory (Gathers Auto inputs.policy client) (Err e) → UnlessMemory (LiftsText main inputs) (Err e)
  given_fails e (inr memory) = inr memory
  given_fails e (inl told) = later (Equals (original inputs.listing inputs.classes main)) over client links (Err e) (inl (by told))
    where
      by : Gathers Auto inputs.policy client (Err e) → LiftsTyped inputs.policy inputs.recorded.steps client (Err e)
      by (inl untyped) = inl untyped
      by (inr (typing, typed, inl unbuilt)) = inr (typing, typed, inl unbuilt)
      by (inr (typing, typed, inr (mode, chosen, same))) = absurd cc

  -- what is told of the steps that are lifted
  pub lifted_so : (given : Given) → Gathers Auto inputs.policy client (Ok given) → (result : Step (List ℕ))
      → UnlessMemory (LiftsOver given.client given.policy given.mode inputs.recorded.steps) result → UnlessMemory (LiftsText main inputs) result
  lifted_so given (typing, typed, (mode, chosen, same)) result told =
      let is : given ≡ record { client = client; typing = typing; policy = built inputs.policy; mode = mode } = ok_is Ended given _ same in
      later (Equals (original inputs.listing inputs.classes main)) over client links result
      (later (Types client) (λ t. Then (Equals (mode_for Auto inputs.policy client.listing)) (λ m. LiftsOver client (built inputs.policy) m inputs.recorded.steps)) typing typed result
      (later (Equals (mode_for Auto inputs.policy client.listing)) (λ m. LiftsOver client (built inputs.policy) m inputs.recorded.steps) mode chosen result
      (subst (λ (g : Given). UnlessMemory (LiftsOver g.client g.policy g.mode inputs.recorded.steps) result) is told)))

-- ---- what is known of the two programs

-- the client has the types that were found
pub typed_client : (weaving : Weaving) (tree : PolicyTree) (client : Program) (given : Given) → IsGathered tree client given → Gathers weaving tree client (Ok given)
    → IsTyped given.client given.typing
typed_client weaving tree client given gathered (typing, typed, (mode, chosen, same)) =
    let is : given ≡ record { client = client; typing = typing; policy = built tree; mode = mode } = ok_is Ended given _ same in
    subst (λ (g : Given). IsTyped g.client g.typing) (sym is) typed.typed

pub ready_of : (program : Program) → IsLinkedProgram program → IsReady program
ready_of program l = record { sound = l.sound; standing = l.linked.standing; named = l.linked.named; order = l.order }

-- the inputs of weaving among those of lifting
pub inline_sound : (inputs : LiftInputs) → LiftSound inputs → InlineSound (inline_inputs inputs)
inline_sound inputs s = record { listing = s.listing; listed = s.listed; policy = s.policy; vars = s.vars; classes = s.classes }

module _ (order : LinkedIsInOrder) (named : LinkedAreNamed) (room : WovenClientsHaveRoom) where
  pub can_lift : (inputs : InlineInputs) (main : List ℕ) (given : Given) (made : Woven) → (of : IsMadeOf inputs main given made)
      → ((new : Program) × ((woven_links made.files inputs.listing main ≡ Ok new) × IsWoven given.client (plan_of given.policy given.mode) given.policy.vars new))
      → IsExpected main given made → CanLift given.policy given.mode given.client (woven_program given made)
  can_lift inputs main given made of (new, (links, blocks)) expected =
      let new_is : new ≡ woven_program given made =
      same_program (woven_links made.files inputs.listing main) new (woven_program given made) links
      (ap (λ l. woven_links made.files l main) (sym of.stands.listing_is) ∙ expected.links) in
      record {
        ready = ready_of (woven_program given made) expected.linked;
        locals = room given.policy given.mode given.client (woven_program given made)
            (record { links = client_linked order named inputs main given made of; original = client_original order named inputs main given made of })
            (woven_client order named inputs main given made of (woven_program given made) expected.links expected.linked.sound
            (subst (IsWoven given.client (plan_of given.policy given.mode) given.policy.vars) new_is blocks));
      }

-- ---- what is promised

module _ (lifts : LiftsAreTold) (replays : ReplaysAreRuns) where
  -- of the lifted run, where its text is told
  run_told : (client program : Program) (policy : Policy) (mode : Mode) (steps : List GuestStep) (text : List ℕ)
      → Ok text ≡ lift_told program (lift_of policy mode client program steps)
      → (run : Lifted) × IsLiftOf policy mode client program steps run × (text ≡ lifted_text program run)
      × (steps_told program (steps_of run.woven.lines) ≡ Ok (events_told program run))
  run_told client program policy mode steps text is =
      by (lift_of policy mode client program steps) is (lifts policy mode client program steps).0
    where
      by : (r : Result Lifted LiftFault) → Ok text ≡ lift_told program r → TellsLift policy mode client program steps r
          → (run : Lifted) × IsLiftOf policy mode client program steps run × (text ≡ lifted_text program run)
          × (steps_told program (steps_of run.woven.lines) ≡ Ok (events_told program run))
      by (Ok run) same told =
          let text_is : text ≡ lifted_text program run = cc in (
            run,
            told,
            text_is,
            lines_replayed replays program run.woven.lines run.woven.machine told.lines_are
                (told.woven_is ∙ ap (exec program) (sym told.steps_are)) (sym (trace_is program run.woven.lines (start_of program) told.lines_are)),
          )
      by (Err fault) same told = absurd cc

  pub lifts_are_runs : LiftsAreRuns
  lifts_are_runs main inputs text (client, links, (typing, typed, (mode, chosen, (program, weaves, told)))) =
      let run = run_told client program (built inputs.policy) mode inputs.recorded.steps text told in
      record {
        client = client;
        links = sym links;
        mode = mode;
        chosen = sym chosen;
        program = program;
        weaves = sym weaves;
        run = run.0;
        lifts = run.1;
        told = run.2;
        replays = run.3;
      }
