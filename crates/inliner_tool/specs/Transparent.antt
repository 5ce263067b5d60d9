-- What is woven leaves runs that the policy accepts as they were. (docs/TRANSPARENCY.md)
use Rattle.std.specs.Prelude.{◌≡◌, ℕ, List, Ok}
use Rattle.bytecode_model.specs.declared.program.Program.{Program}
use Rattle.bytecode_model.specs.Sound.{IsSound}
use Rattle.bytecode_model.specs.Typed.{IsTyped}
use Rattle.block_template.specs.Blocks.{plan_of}
use Rattle.class_weaving.specs.declared.woven.Woven.{Woven}
use Rattle.class_weaving.specs.Outcome.{IsWoven}
use Rattle.command_inputs.specs.declared.inline_inputs.InlineInputs.{InlineInputs}
use Rattle.inliner_tool.specs.declared.inline.Given.{Given}
use Rattle.inliner_tool.specs.Expected.{IsMadeOf}
use Rattle.inliner_tool.specs.Programs.{woven_links}
use Rattle.inliner_tool.specs.Weaving.{IsTransparent}

-- What is woven of a typed program is so.
abbrev pub WovenIsTransparent : Type 0
WovenIsTransparent = (inputs : InlineInputs) (main : List ℕ) (given : Given) (made : Woven) → IsMadeOf inputs main given made
    → IsTyped given.client given.typing → (new : Program) → woven_links made.files given.client.listing main ≡ Ok new → IsSound new
    → IsWoven given.client (plan_of given.policy given.mode) given.policy.vars new → IsTransparent given new
