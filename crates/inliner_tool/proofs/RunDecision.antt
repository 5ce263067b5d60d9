-- To files that are told, and are a listing, a record and class files of a program with types, `replay` answers what the run comes
-- to, unless memory runs out.
use Rattle.std.proofs.Common.{◌≡◌, inl, inr, ℕ, Result, Ok, Err, sym, ap, subst, ◌∙◌}
use Rattle.std.specs.Prelude.{length}
use Rattle.api_listing.specs.declared.types.Listing.{Listing}
use Rattle.bytecode_model.specs.declared.program.Program.{Program}
use Rattle.bytecode_model.specs.declared.program.Side.TheVariants.{Inlined}
use Rattle.bytecode_model.specs.Typed.{frames_in, frames_told}
use Rattle.command_inputs.specs.ReplayWords.{NamedReplay}
use Rattle.command_inputs.specs.Words.{Replay}
use Rattle.guest_replay.specs.declared.replaying.Replayed.{Replayed}
use Rattle.guest_replay.specs.declared.replaying.ReplayFault.{ReplayFault}
use Rattle.guest_replay.specs.declared.replaying.ReplayFault.TheVariants as faults
use Rattle.guest_replay.specs.Replaying.{replayed}
use Rattle.mon_store.specs.Store.{Files, Rose}
use Rattle.command_inputs.specs.declared.files.Stop.{Stop}
use Rattle.command_inputs.specs.declared.files.Stop.TheVariants as stops
use Rattle.command_inputs.specs.declared.named.ReadClasses.{ReadClasses as Classes}
use Rattle.command_inputs.specs.declared.replay_inputs.ReplayInputs.{ReplayInputs}
use Rattle.command_inputs.specs.Forms.{Count, ReadsForm, Then, Yields}
use Rattle.command_inputs.specs.Kinds.{listing_form, record_form}
use Rattle.command_inputs.specs.Named.{ReadsClasses}
use Rattle.command_inputs.specs.ReplayInputs.{ReadsReplay}
use Rattle.inliner_tool.specs.declared.answer.Made.{Made}
use Rattle.inliner_tool.specs.declared.refusal.Ended.{Ended}
use Rattle.inliner_tool.specs.declared.refusal.Ended.TheVariants as ends
use Rattle.inliner_tool.specs.declared.refusal.Refusal.{Refusal}
use Rattle.inliner_tool.specs.declared.refusal.Refusal.TheVariants as refusals
use Rattle.inliner_tool.specs.Decision.{IsDecision}
use Rattle.inliner_tool.specs.Programs.{Types, program_of}
use Rattle.inliner_tool.specs.Replay.{Replays, Tells, run_told}
use Rattle.inliner_tool.specs.ReplayDecision.{NamesRun, ReplayDecides}
use Rattle.inliner_tool.specs.Steps.{Outcome, Reading, Step, outcome_step, stopped}
use Rattle.inliner_tool.specs.Tool.{answer_status, refusal_status, status_of}
use Rattle.inliner_tool.proofs.Carrying.{no_rise_so}
use Rattle.inliner_tool.proofs.Told.{may_read, stops_once, tree_once}
use Rattle.inliner_tool.proofs.ToldClasses.{classes_stop, may_classes, same_classes}
use Rattle.type_infer.specs.Untyped.{IsTypable, IsUntypedAt}

-- ---- types

-- a program with types is untyped nowhere
typed_nowhere : (program : Program) (class method at : ℕ) → IsTypable program → IsUntypedAt program class method at → ⊥
typed_nowhere program class method at (typing, typed) untyped =
    untyped.fails (frames_in untyped.of.methods (frames_told typing class) method, λ i below. rw (untyped.class_there, untyped.method_there) at (typed class method i))

-- The types of such a program are found.
pub types_are_found : (program : Program) → IsTypable program → (e : Ended) → Types program (Err e) → ⊥
types_are_found program typable e (class, method, at, is, untyped) = typed_nowhere program class method at typable untyped

-- ---- what is told

module _ (files : Files) (count : Count) (named : NamedReplay) (no_rise : Rose count.before count.now → ⊥) (names : NamesRun files named) where
  run_decides : (program : Program) (n : ℕ) (result : Result Replayed ReplayFault) (refusal : Refusal) → Err (ends.Refused refusal) ≡ run_told program n result → IsDecision (refusal_status refusal)
  run_decides program n (Ok run) refusal is = absurd cc
  run_decides program n (Err (faults.NotEnabled index)) refusal is =
      let same : refusal ≡ refusals.NotEnabled index = cc in
      inr (ap refusal_status same)
  run_decides program n (Err faults.Memory) refusal is = absurd cc

  -- the inputs are those that the files are
  same_listing : (listing : Listing) → ReadsForm files count named.listing listing_form (Ok listing) → listing ≡ names.listing
  same_listing listing read =
      tree_once files count named.listing listing_form names.listing names.told (may_read files named.listing listing_form names.listing names.listing_read) no_rise listing read

  linked_same : (listing : Listing) (classes : Classes) → listing ≡ names.listing → ReadsClasses files count named.classes (Ok classes) → program_of listing classes named.main Inlined ≡ Ok names.program
  linked_same listing classes same read =
      let is : classes ≡ names.classes =
      same_classes files count names.told no_rise named.classes classes names.classes read (may_classes files named.classes names.classes.files names.classes.total names.classes_read) in
      rw (same, is) names.links

  told_decides : (inputs : ReplayInputs) (refusal : Refusal) → program_of inputs.listing inputs.classes named.main Inlined ≡ Ok names.program → Tells named.main inputs (Err (ends.Refused refusal))
      → IsDecision (refusal_status refusal)
  told_decides inputs refusal links (inl first) =
      let wrong : ◌≡◌ {A = Step Program} (Err (ends.Refused refusal)) (Ok names.program) = first ∙ links in
      absurd cc
  told_decides inputs refusal links (inr (program, first, inl untyped)) =
      let right : ◌≡◌ {A = Step Program} (Ok program) (Ok names.program) = first ∙ links in
      let same : program ≡ names.program = cc in
      absurd (types_are_found program (subst IsTypable (sym same) names.typable) (ends.Refused refusal) untyped)
  told_decides inputs refusal links (inr (program, first, inr (typing, typed, is))) =
      run_decides program (length inputs.recorded.steps) (replayed program inputs.recorded.steps) refusal is

  read_links : (inputs : ReplayInputs) → ReadsReplay files count named (Ok inputs) → program_of inputs.listing inputs.classes named.main Inlined ≡ Ok names.program
  read_links inputs (listing, first, (recorded, second, (classes, third, is))) =
      rw is (linked_same listing classes (same_listing listing first) third)

  -- only memory stops the reading
  record_stops : (listing : Listing) (stop : Stop) → ReadsForm files count named.listing listing_form (Ok listing) → ReadsForm files count named.recorded (record_form listing) (Err stop) → stop ≡ stops.Memory
  record_stops listing stop first is =
      let here = subst (λ (l : Listing). ReadsForm files count named.recorded (record_form l) (Err stop)) (same_listing listing first) is in
      stops_once files count named.recorded (record_form names.listing) names.recorded names.told (may_read files named.recorded (record_form names.listing) names.recorded names.record_read) no_rise stop here

  run_stops : (stop : Stop) → ReadsReplay files count named (Err stop) → stop ≡ stops.Memory
  run_stops stop (inl first) =
      stops_once files count named.listing listing_form names.listing names.told (may_read files named.listing listing_form names.listing names.listing_read) no_rise stop first
  run_stops stop (inr (listing, first, inl second)) = record_stops listing stop first second
  run_stops stop (inr (listing, first, inr (recorded, second, inl third))) =
      classes_stop files count names.told no_rise named.classes names.classes.files names.classes.total stop (may_classes files named.classes names.classes.files names.classes.total names.classes_read) third
  run_stops stop (inr (listing, first, inr (recorded, second, inr (classes, third, none)))) = absurd none

  replays_decide : (outcome : Outcome) → Then (Then (Reading (ReadsReplay files count named)) (Replays named.main)) (λ made. Yields made.answer) (outcome_step outcome) → IsDecision (status_of outcome)
  replays_decide (Ok answer) (made, (inputs, read, (text, tells, same)), is) = inl (ap answer_status (is ∙ ap (λ (m : Made). m.answer) same))
  replays_decide (Err refusal) (inl (inl (stop, read, is))) =
      let wrong : ends.Refused refusal ≡ ends.Memory = is ∙ ap stopped (run_stops stop read) in
      absurd cc
  replays_decide (Err refusal) (inl (inr (inputs, read, inl tells))) = told_decides inputs refusal (read_links inputs read) tells
  replays_decide (Err refusal) (inl (inr (inputs, read, inr (text, tells, none)))) = absurd none
  replays_decide (Err refusal) (inr (made, makes, none)) = absurd none

pub replay_decides : ReplayDecides
replay_decides seen named outcome carries no_rise names = replays_decide seen.old seen.count named no_rise names outcome (no_rise_so seen (Replay named) no_rise (outcome_step outcome) carries)
