-- What the command `lift` tells of a recorded run of a client: the record of the lifted one. (docs/TRANSPARENCY.md)
use Rattle.std.specs.Prelude.{◌≡◌, ℕ, List, length, Result, Ok, Err}
use Rattle.std.specs.List.{AllByRecursion, filter_map}
use Rattle.bytecode_model.specs.declared.program.Program.{Program}
use Rattle.block_template.specs.Blocks.{plan_of}
use Rattle.cert_format.specs.declared.certificate.Mode.{Mode}
use Rattle.class_weaving.specs.Woven.{AllLocalsFit, woven}
use Rattle.command_inputs.specs.declared.inline_inputs.InlineInputs.{InlineInputs}
use Rattle.command_inputs.specs.declared.inline_words.Weaving.TheVariants.{Auto}
use Rattle.command_inputs.specs.declared.lift_inputs.LiftInputs.{LiftInputs}
use Rattle.command_inputs.specs.Forms.{Then}
use Rattle.class_codec.specs.Fits.{IsEncodable}
use Rattle.class_weaving.specs.declared.woven.Woven.{Woven}
use Rattle.conspec_tree.specs.declared.types.PolicyTree.{PolicyTree}
use Rattle.conspec_automaton.specs.declared.policy.Policy.{Policy}
use Rattle.conspec_automaton.specs.Building.{built}
use Rattle.event_record.specs.declared.writing.Line.{Line}
use Rattle.event_record.specs.Writing.{events_text, record_text}
use Rattle.guest_model.specs.declared.machine.Step.{Step as GuestStep}
use Rattle.guest_model.specs.Ending.{end_of}
use Rattle.guest_model.specs.Ready.{IsReady}
use Rattle.lift_schedule.specs.declared.fault.LiftFault.{LiftFault}
use Rattle.lift_schedule.specs.declared.fault.LiftFault.TheVariants as faults
use Rattle.lift_schedule.specs.declared.lifting.Lifted.{Lifted}
use Rattle.lift_schedule.specs.Laws.{IsLiftOf, steps_of}
use Rattle.lift_schedule.specs.Lifting.{lift_of}
use Rattle.mon_base.specs.Reading.{◌>>=◌}
use Rattle.woven_linking.specs.Program.{program_with}
use Rattle.inliner_tool.specs.declared.answer.Answer.TheVariants as answers
use Rattle.inliner_tool.specs.declared.answer.Made.{Made}
use Rattle.inliner_tool.specs.declared.inline.Given.{Given}
use Rattle.inliner_tool.specs.declared.refusal.Ended.{Ended}
use Rattle.inliner_tool.specs.declared.refusal.Ended.TheVariants.{Refused, Memory}
use Rattle.inliner_tool.specs.declared.refusal.Refusal.TheVariants as refusals
use Rattle.inliner_tool.specs.Programs.{Types}
use Rattle.inliner_tool.specs.Replay.{end_told, steps_told}
use Rattle.inliner_tool.specs.Steps.{Equals, Just, Step}
use Rattle.inliner_tool.specs.Weaving.{mode_for, original, weave_step}

-- ---- the lifted run

-- why no run is lifted
abbrev pub lift_end : LiftFault → Ended
lift_end (faults.NotEnabled index) = Refused (refusals.NotEnabled index)
lift_end (faults.Disobeys index) = Refused (refusals.Disobeys index)
lift_end (faults.Overlaps index) = Refused (refusals.Overlaps index)
lift_end faults.Memory = Memory

-- the record of the lifted run, which ends as the woven program then stands
abbrev pub lifted_text : Program → Lifted → List ℕ
lifted_text woven run = record_text woven.listing run.woven.lines (end_told (end_of woven run.woven.machine))

-- the events of the lifted run, and its end
abbrev pub events_told : Program → Lifted → List ℕ
events_told woven run =
    events_text woven.listing (filter_map (λ (line : Line). line.event) run.woven.lines) (end_told (end_of woven run.woven.machine))
    (length run.woven.lines)

abbrev pub lift_told : Program → Result Lifted LiftFault → Step (List ℕ)
lift_told woven (Ok run) = Ok (lifted_text woven run)
lift_told woven (Err fault) = Err (lift_end fault)

-- ---- the steps

-- the client with the blocks of the policy, or the first size that does not fit
abbrev pub blocks_step : Program → Policy → Mode → Step Program
blocks_step client policy mode =
    weave_step (woven client (plan_of policy mode) policy.vars) >>= λ made. Ok (program_with client made.files made.methods)

-- The steps are lifted from the client to what the policy is woven to in this mode.
abbrev pub LiftsOver : Program → Policy → Mode → List GuestStep → Step (List ℕ) → Type 0
LiftsOver client policy mode steps =
    Then (Equals (blocks_step client policy mode)) (λ woven.
    Equals (lift_told woven (lift_of policy mode client woven steps)))

-- The client is typed, and the policy is woven in the mode that it allows.
abbrev pub LiftsTyped : PolicyTree → List GuestStep → Program → Step (List ℕ) → Type 0
LiftsTyped tree steps client =
    Then (Types client) (λ typing.
    Then (Equals (mode_for Auto tree client.listing)) (λ mode.
    LiftsOver client (built tree) mode steps))

-- The class files link, as a compiler's, to a client. These are all steps, each after the one above it: the first that fails is the
-- answer.
abbrev pub LiftsText : List ℕ → LiftInputs → Step (List ℕ) → Type 0
LiftsText main inputs = Then (Equals (original inputs.listing inputs.classes main)) (LiftsTyped inputs.policy inputs.recorded.steps)

-- The record of the lifted run is told.
abbrev pub Lifts : List ℕ → LiftInputs → Step Made → Type 0
Lifts main inputs = Then (LiftsText main inputs) (λ text. Just (answers.Lifted text))

-- ---- what is known of it

-- the inputs of which the program with blocks is woven
abbrev pub inline_inputs : LiftInputs → InlineInputs
inline_inputs inputs = record { listing = inputs.listing; policy = inputs.policy; classes = inputs.classes }

-- The woven program can be run, and the locals of blocks fit.
pub record CanLift (policy : Policy) (mode : Mode) (client woven : Program) : Type 0 where
  pub ready : IsReady woven
  pub locals : AllLocalsFit (plan_of policy mode) client

-- So it is of whatever is woven of it, where its files can be encoded.
abbrev pub CanBeLifted : Given → Type 0
CanBeLifted given = (made : Woven) → woven given.client (plan_of given.policy given.mode) given.policy.vars ≡ Ok made
    → AllByRecursion IsEncodable made.files → CanLift given.policy given.mode given.client (program_with given.client made.files made.methods)

-- ---- what is promised

-- The record that is told is that of a lifted run: the class files link to a client, the policy is woven into it, the recorded steps are
-- a run of the client that the policy accepts, and the lines are those of the steps to which it is lifted. Replay of these steps on the
-- woven program tells the same events, and the same end.
pub record IsLiftedRun (main : List ℕ) (inputs : LiftInputs) (text : List ℕ) : Type 0 where
  pub client : Program
  pub links : original inputs.listing inputs.classes main ≡ Ok client
  pub mode : Mode
  pub chosen : mode_for Auto inputs.policy client.listing ≡ Ok mode
  pub program : Program
  pub weaves : blocks_step client (built inputs.policy) mode ≡ Ok program
  pub run : Lifted
  pub lifts : IsLiftOf (built inputs.policy) mode client program inputs.recorded.steps run
  pub told : text ≡ lifted_text program run
  pub replays : steps_told program (steps_of run.woven.lines) ≡ Ok (events_told program run)

-- So it is of whatever `lift` tells.
abbrev pub LiftsAreRuns : Type 0
LiftsAreRuns = (main : List ℕ) (inputs : LiftInputs) (text : List ℕ) → LiftsText main inputs (Ok text) → IsLiftedRun main inputs text
