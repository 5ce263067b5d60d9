-- What is woven of inputs, judged, and then written; or the first thing for which nothing is written. (docs/BLOCKS.md)
use Rattle.std.specs.Prelude.{◌≡◌, ℕ, true, List, length, if◌then◌else◌, Result, Ok, Err}
use Rattle.mon_store.specs.declared.outputs.Output.{Output}
use Rattle.api_listing.specs.declared.types.Listing.{Listing}
use Rattle.bytecode_model.specs.declared.program.LinkedClass.{LinkedClass}
use Rattle.bytecode_model.specs.declared.program.Program.{Program}
use Rattle.bytecode_model.specs.declared.program.Side.TheVariants.{Original}
use Rattle.bytecode_model.specs.Files.{unlinked}
use Rattle.bytecode_model.specs.Layout.{IsLaidOut}
use Rattle.bytecode_model.specs.Sound.{IsSound}
use Rattle.bytecode_model.specs.Typed.{IsTyped}
use Rattle.block_runs.specs.ClientRuns.{IsRunOf}
use Rattle.block_runs.specs.WovenClients.{ConstantsAreThere}
use Rattle.block_template.specs.Blocks.{plan_of}
use Rattle.cert_checker.specs.declared.checking.Accepted.{Accepted}
use Rattle.cert_checker.specs.Judging.{IsAllowed, judged}
use Rattle.cert_checker.specs.Secure.{Secure}
use Rattle.cert_format.specs.declared.certificate.Certificate.{Certificate}
use Rattle.cert_format.specs.declared.certificate.Mode.{Mode}
use Rattle.cert_format.specs.declared.certificate.Mode.TheVariants as modes
use Rattle.cert_format.specs.declared.typing.Typing.{Typing}
use Rattle.cert_format.specs.Fits.{IsEncodable}
use Rattle.cert_format.specs.Encoding.{encode_certificate}
use Rattle.cert_maker.specs.Noting.{certificate_of}
use Rattle.class_codec.specs.declared.tree.ClassFile.{ClassFile}
use Rattle.class_weaving.specs.declared.woven.Woven.{Woven}
use Rattle.class_weaving.specs.Outcome.{IsWoven}
use Rattle.class_weaving.specs.Woven.{woven}
use Rattle.command_inputs.specs.declared.inline_words.Weaving.{Weaving}
use Rattle.command_inputs.specs.declared.inline_words.Weaving.TheVariants as weavings
use Rattle.conspec_automaton.specs.declared.policy.Policy.{Policy}
use Rattle.conspec_automaton.specs.Building.{built}
use Rattle.conspec_automaton.specs.Next.{Values}
use Rattle.conspec_automaton.specs.Racing.{IsRaceFree, all_pairs}
use Rattle.conspec_tree.specs.declared.types.PolicyTree.{PolicyTree}
use Rattle.guest_erasing.specs.Accepted.{IsAcceptedRun}
use Rattle.guest_model.specs.declared.machine.Step.{Step as GuestStep}
use Rattle.command_inputs.specs.declared.inline_inputs.InlineInputs.{InlineInputs}
use Rattle.command_inputs.specs.declared.named.ReadClasses.{ReadClasses as Classes}
use Rattle.command_inputs.specs.Forms.{Yields, Then}
use Rattle.offset_patch.specs.declared.fault.SpliceFault.{SpliceFault}
use Rattle.offset_patch.specs.declared.fault.SpliceFault.TheVariants as splices
use Rattle.command_outputs.specs.Outputs.{is_written, outputs_of}
use Rattle.race_free_check.specs.declared.fault.RaceFault.{RaceFault}
use Rattle.race_free_check.specs.declared.verdict.RaceVerdict.{RaceVerdict}
use Rattle.race_free_check.specs.declared.verdict.RaceVerdict.TheVariants as races
use Rattle.race_free_check.specs.Deciding.{decided}
use Rattle.race_free_check.specs.Limit.{AllHaveFewPoints}
use Rattle.cert_maker.specs.Canonical.{canonical}
use Rattle.woven_linking.specs.declared.inlining.Inlined.{Inlined}
use Rattle.woven_typing.specs.Framing.{typing_of}
use Rattle.inliner_tool.specs.declared.refusal.Ended.{Ended}
use Rattle.inliner_tool.specs.declared.refusal.Ended.TheVariants as ends
use Rattle.inliner_tool.specs.declared.refusal.Refusal.TheVariants as refusals
use Rattle.inliner_tool.specs.declared.inline.Given.{Given}
use Rattle.inliner_tool.specs.declared.inline.Ready.{Ready}
use Rattle.inliner_tool.specs.Programs.{AreTypes, Types, program_of, woven_links}
use Rattle.inliner_tool.specs.Race.{race_step}
use Rattle.inliner_tool.specs.Steps.{Equals, Step}

-- ---- the steps

-- the program that the class files link to, as those of a compiler
abbrev pub original : Listing → Classes → List ℕ → Step Program
original listing classes main = program_of listing classes main Original

-- The lock is let go where it is decided that the policy is race-free, and held elsewhere.
abbrev pub auto_mode : Result RaceVerdict RaceFault → Mode
auto_mode (Ok races.Free) = modes.Release
auto_mode (Ok (races.Racy condition state first second)) = modes.Hold
auto_mode (Err fault) = modes.Hold

-- The lock is let go, where the policy is race-free.
abbrev pub releasing : Step (Unit {0}) → Step Mode
releasing (Ok free) = Ok modes.Release
releasing (Err refusal) = Err refusal

-- the mode in which a policy is woven, or why it is not woven
abbrev pub mode_for : Weaving → PolicyTree → Listing → Step Mode
mode_for weavings.Hold policy listing = Ok modes.Hold
mode_for weavings.Release policy listing = releasing (race_step policy listing (decided (built policy)))
mode_for weavings.Auto policy listing = Ok (auto_mode (decided (built policy)))

-- The types of the program, which is typed, and the policy in its mode, put together so.
abbrev pub GathersAs : {A : Type 0} → (Typing → Policy → Mode → A) → Weaving → PolicyTree → Program → Step A → Type 0
GathersAs together weaving policy client =
    Then (Types client) (λ typing. Then (Equals (mode_for weaving policy client.listing)) (λ mode. Equals (Ok (together typing (built policy) mode))))

-- What is to be woven: the program with its types, and the policy in its mode.
abbrev pub Gathers : Weaving → PolicyTree → Program → Step Given → Type 0
Gathers weaving tree client =
    GathersAs (λ typing policy mode. record { client = client; typing = typing; policy = policy; mode = mode }) weaving tree client

-- The same, before the program is put to it.
abbrev pub GathersBoth : Weaving → PolicyTree → Program → Step (Typing × (Policy × Mode)) → Type 0
GathersBoth = GathersAs (λ typing policy mode. (typing, (policy, mode)))

-- The policy is race-free, and each two clauses have so few points that this is decided.
pub record IsFreeOfRaces (policy : Policy) : Type 0 where
  pub race : IsRaceFree policy
  pub few : AllHaveFewPoints all_pairs policy

-- It is this program, with types of its layout, and this policy, which is race-free where the lock is let go.
pub record IsGathered (tree : PolicyTree) (program : Program) (given : Given) : Type 0 where
  pub client : given.client ≡ program
  pub laid_out : IsLaidOut program given.typing.frames
  pub policy : given.policy ≡ built tree
  pub free : given.mode ≡ modes.Release → IsFreeOfRaces given.policy

-- why nothing is woven
abbrev pub splice_end : SpliceFault → Ended
splice_end (splices.Overflow class method what value) = ends.Refused (refusals.Overflow class method what value)
splice_end splices.Memory = ends.Memory

abbrev pub weave_step : Result Woven SpliceFault → Step Woven
weave_step (Ok made) = Ok made
weave_step (Err fault) = Err (splice_end fault)

-- ---- the outputs

-- A certificate has at most 64 MiB, and its names at most 65,535 bytes; else nothing is written, and its length is told.
abbrev pub outputs_step : List ℕ → Program → Certificate → Step (List Output)
outputs_step folder program certificate =
    if is_written certificate then Ok (outputs_of folder program certificate) else Err (ends.Refused (refusals.LongCertificate (length (encode_certificate certificate))))

-- ---- all steps

-- the certificate of the program that is woven
abbrev pub certificate_for : Given → Program → Certificate
certificate_for given program =
    certificate_of given.client.classes given.policy given.mode (canonical program (typing_of given.client given.policy given.mode given.typing))

-- the certificate of a program with its blocks, which was made of these classes and has these types
abbrev pub certificate_with : List LinkedClass → Policy → Inlined → Typing → Certificate
certificate_with old policy inlined typing = certificate_of old policy inlined.mode (canonical inlined.program typing)

-- What is woven is a program that is typed, and that is accepted with the certificate that is made of the client's types.
pub record IsRemade (main : List ℕ) (given : Given) (made : Woven) (program : Program) (accepted : Accepted) : Type 0 where
  pub links : woven_links made.files given.client.listing main ≡ Ok program
  pub typed : IsTyped program (certificate_for given program).typing
  pub verdict : judged program given.policy (certificate_for given program) ≡ Ok accepted

-- what is made of outputs
abbrev pub Told : Program → Accepted → List Output → Step Ready → Type 0
Told program accepted outputs = Yields (record { outputs = outputs; accepted = accepted; classes = length program.classes })

-- The woven program is such a one, always; its outputs fit, or the certificate is too long.
pub record Remakes (main folder : List ℕ) (given : Given) (made : Woven) (result : Step Ready) : Type 0 where
  pub program : Program
  pub accepted : Accepted
  pub remade : IsRemade main given made program accepted
  pub fits : Then (Equals (outputs_step folder program (certificate_for given program))) (Told program accepted) result

-- The sizes of what is woven fit.
abbrev pub Fits : List ℕ → List ℕ → Given → Step Ready → Type 0
Fits main folder given = Then (Equals (weave_step (woven given.client (plan_of given.policy given.mode) given.policy.vars))) (Remakes main folder given)

-- There is a mode in which the policy is woven.
abbrev pub Chosen : List ℕ → List ℕ → Weaving → PolicyTree → Program → Typing → Step Ready → Type 0
Chosen main folder weaving policy client typing =
    Then (Equals (mode_for weaving policy client.listing)) (λ mode.
    Fits main folder (record { client = client; typing = typing; policy = built policy; mode = mode }))

-- The program is typed.
abbrev pub Typed : List ℕ → List ℕ → Weaving → PolicyTree → Program → Step Ready → Type 0
Typed main folder weaving policy client = Then (Types client) (Chosen main folder weaving policy client)

-- The inputs link, with a main class of this name, and are woven so, to be written to this folder. These are all steps, each after
-- the one above it: the first that fails is the answer.
abbrev pub Plans : List ℕ → List ℕ → Weaving → InlineInputs → Step Ready → Type 0
Plans main folder weaving inputs = Then (Equals (original inputs.listing inputs.classes main)) (Typed main folder weaving inputs.policy)

-- The program is accepted, and these are its outputs, or its certificate is too long.
abbrev pub Accepts : List ℕ → Policy → Program → Certificate → Step Ready → Type 0
Accepts folder policy program certificate result =
    (accepted : Accepted) × (judged program policy certificate ≡ Ok accepted)
    × Then (Equals (outputs_step folder program certificate)) (Told program accepted) result

-- ---- what is known of what is ready

-- The program was accepted with the certificate, and obeys the policy; both are to be written.
pub record IsJudgedReady (folder : List ℕ) (policy : Policy) (program : Program) (certificate : Certificate) (ready : Ready) : Type 0 where
  pub verdict : judged program policy certificate ≡ Ok ready.accepted
  pub secure : Secure certificate.mode program policy
  pub written : is_written certificate ≡ true
  pub outputs : ready.outputs ≡ outputs_of folder program certificate

-- What is woven links to a program of these files, which is accepted with a certificate, and obeys the policy for every
-- list of guest steps; it and the certificate, which can be read again, are to be written.
pub record IsRewoven (main folder : List ℕ) (given : Given) (files : List ClassFile) (ready : Ready) : Type 0 where
  pub program : Program
  pub links : woven_links files given.client.listing main ≡ Ok program
  pub same : unlinked program ≡ files
  pub sound : IsSound program
  pub certificate : Certificate
  pub mode_is : certificate.mode ≡ given.mode
  pub accepted : IsAllowed program given.policy certificate
  pub verdict : judged program given.policy certificate ≡ Ok ready.accepted
  pub secure : Secure given.mode program given.policy
  pub encodes : IsEncodable (length given.policy.vars) certificate
  pub written : is_written certificate ≡ true
  pub outputs : ready.outputs ≡ outputs_of folder program certificate

-- What is woven of it is ready.
pub record IsMadeReady (main folder : List ℕ) (given : Given) (ready : Ready) : Type 0 where
  pub made : Woven
  pub weaves : woven given.client (plan_of given.policy given.mode) given.policy.vars ≡ Ok made
  pub rewoven : IsRewoven main folder given made.files ready

-- Each run of the client that the policy accepts, and in which in mode hold no two calls of methods with clauses are under way at a
-- time, is one of the program with blocks, with the monitor's steps put to it: the library sees the same, and the machine to which it
-- comes is the client's once what the monitor adds is erased. What each ConstantValue of the client names is a constant of its file.
abbrev pub IsTransparent : Given → Program → Type 0
IsTransparent given program =
    ConstantsAreThere given.client
    → (steps : List GuestStep) (end : Values) → IsAcceptedRun given.policy given.mode given.client steps end
    → IsRunOf given.policy given.mode given.client program steps end

-- The inputs link to a program, and what the weaving of the policy makes of it, in this mode, is to be written: it links to the same
-- classes in their order, where each call that the policy has clauses for, and no other, stands in its block, and conspec/State
-- after them. It leaves the runs that the policy accepts as they were.
pub record IsPlanned (main folder : List ℕ) (weaving : Weaving) (inputs : InlineInputs) (ready : Ready) : Type 0 where
  pub given : Given
  pub links : original inputs.listing inputs.classes main ≡ Ok given.client
  pub listing : given.client.listing ≡ inputs.listing
  pub typed : AreTypes given.client given.typing
  pub policy : given.policy ≡ built inputs.policy
  pub chosen : mode_for weaving inputs.policy given.client.listing ≡ Ok given.mode
  pub made : Woven
  pub woven : woven given.client (plan_of given.policy given.mode) given.policy.vars ≡ Ok made
  pub rewoven : IsRewoven main folder given made.files ready
  pub blocks : IsWoven given.client (plan_of given.policy given.mode) given.policy.vars rewoven.program
  pub transparent : IsTransparent given rewoven.program
