-- What is expected of files that were woven. (docs/COMMANDS.md)
use Rattle.std.specs.Prelude.{◌≡◌, ℕ, ◌≤◌, true, List, length, Ok}
use Rattle.std.specs.List.{AllByRecursion}
use Rattle.bytecode_model.specs.declared.program.Program.{Program}
use Rattle.bytecode_model.specs.declared.program.Side.TheVariants.{Original}
use Rattle.bytecode_model.specs.Files.{unlinked}
use Rattle.bytecode_model.specs.Layout.{IsLaidOut}
use Rattle.bytecode_model.specs.Sound.{IsSound}
use Rattle.bytecode_model.specs.LinkedClasses.{IsLinkedOf}
use Rattle.bytecode_model.specs.Typed.{IsTyped}
use Rattle.block_logic.specs.Accepted.{IsAccepted}
use Rattle.block_template.specs.Blocks.{plan_of}
use Rattle.cert_format.specs.Fits.{IsEncodable}
use Rattle.class_codec.specs.Fits as classes
use Rattle.class_linking.specs.Linking.{linked}
use Rattle.class_weaving.specs.declared.woven.Woven.{Woven}
use Rattle.class_weaving.specs.Outcome.{IsWoven}
use Rattle.class_weaving.specs.Woven.{woven}
use Rattle.conspec_automaton.specs.Building.{built}
use Rattle.command_inputs.specs.declared.inline_inputs.InlineInputs.{InlineInputs}
use Rattle.command_inputs.specs.InlineInputs.{InlineSound}
use Rattle.command_outputs.specs.Outputs.{is_written}
use Rattle.cert_maker.specs.Canonical.{FitsTyping}
use Rattle.typed_runs.specs.Programs.{IsLinkedProgram}
use Rattle.woven_linking.specs.Program.{HaveRoom, program_with}
use Rattle.inliner_tool.specs.declared.inline.Given.{Given}
use Rattle.inliner_tool.specs.Policy.{IsSoundFor}
use Rattle.inliner_tool.specs.Programs.{woven_links}
use Rattle.inliner_tool.specs.Weaving.{certificate_for}

-- the program that is made of woven files
abbrev pub woven_program : Given → Woven → Program
woven_program given made = program_with given.client made.files made.methods

-- They have room for the blocks, and link to the program that is made of them. It is accepted with the certificate that is made of
-- the client's types; this can be encoded where it is written.
pub record IsExpected (main : List ℕ) (given : Given) (made : Woven) : Type 0 where
  pub client : IsSound given.client
  pub room : HaveRoom (plan_of given.policy given.mode) given.client.classes made.files
  pub links : woven_links made.files given.client.listing main ≡ Ok (woven_program given made)
  pub back : unlinked (woven_program given made) ≡ made.files
  pub linked : IsLinkedProgram (woven_program given made)
  pub accepted : IsAccepted (woven_program given made) given.policy (certificate_for given (woven_program given made))
  pub encodes : FitsTyping (certificate_for given (woven_program given made)).typing → is_written (certificate_for given (woven_program given made)) ≡ true
      → IsEncodable (length given.policy.vars) (certificate_for given (woven_program given made))

-- Sound inputs link to the program, and have the policy; this is woven of them.
pub record IsMadeOf (inputs : InlineInputs) (main : List ℕ) (given : Given) (made : Woven) : Type 0 where
  pub known : InlineSound inputs
  pub links : linked inputs.classes.files inputs.listing main Original ≡ Ok given.client
  pub sound : IsSound given.client
  pub stands : IsLinkedOf Original inputs.listing main given.client
  pub policy : given.policy ≡ built inputs.policy
  pub kept : IsSoundFor given.client.listing given.policy
  pub weaves : woven given.client (plan_of given.policy given.mode) given.policy.vars ≡ Ok made

-- What is woven links to the program with its blocks.
abbrev pub WovenHasBlocks : Type 0
WovenHasBlocks = (inputs : InlineInputs) (main : List ℕ) (given : Given) (made : Woven) → IsMadeOf inputs main given made
    → (new : Program) × ((woven_links made.files inputs.listing main ≡ Ok new) × IsWoven given.client (plan_of given.policy given.mode) given.policy.vars new)

-- What is woven of a typed program is as is expected, where its files can be encoded and are not too many.
abbrev pub WovenIsExpected : Type 0
WovenIsExpected = (inputs : InlineInputs) (main : List ℕ) (given : Given) (made : Woven) → IsMadeOf inputs main given made
    → IsTyped given.client given.typing → IsLaidOut given.client given.typing.frames → AllByRecursion classes.IsEncodable made.files → length made.files ≤ 1001
    → IsExpected main given made

-- Whatever is woven of it is as is expected, where its files can be encoded.
abbrev pub IsExpectedOf : List ℕ → Given → Type 0
IsExpectedOf main given = (made : Woven) → woven given.client (plan_of given.policy given.mode) given.policy.vars ≡ Ok made
    → AllByRecursion classes.IsEncodable made.files → IsExpected main given made
