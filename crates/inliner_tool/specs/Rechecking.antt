-- That `check` accepts what `inline` and `load` wrote. (docs/COMMANDS.md)
use Rattle.std.specs.Prelude.{◌≡◌, ◌≤◌, ℕ, ◌+◌, List, [], ◌∷◌, length, map, Ok, IsSome}
use Rattle.std.specs.List.{AllByRecursion}
use Rattle.bytecode_model.specs.declared.program.LinkedClass.{LinkedClass}
use Rattle.bytecode_model.specs.Files.{max_files}
use Rattle.class_codec.specs.Encoding.{encoding}
use Rattle.command_inputs.specs.declared.inline_inputs.InlineInputs.{InlineInputs}
use Rattle.command_inputs.specs.declared.inline_words.Weaving.{Weaving}
use Rattle.command_inputs.specs.Words.{Check, NamedCheck}
use Rattle.mon_store.specs.Store.{Rose}
use Rattle.command_inputs.specs.Forms.{IsRead}
use Rattle.command_inputs.specs.Kinds.{listing_form, policy_form}
use Rattle.command_outputs.specs.Outputs.{certificate_name, class_name}
use Rattle.inliner_tool.specs.declared.tool.Status.TheVariants as statuses
use Rattle.inliner_tool.specs.Inline.{IsWovenInto}
use Rattle.inliner_tool.specs.Seen.{Seen}
use Rattle.inliner_tool.specs.Steps.{Outcome, outcome_step}
use Rattle.inliner_tool.specs.Tool.{status_of}
use Rattle.inliner_tool.specs.Writing.{CarriesOut}

-- how many bytes a class file has
abbrev pub size_of : LinkedClass → ℕ
size_of class = length (encoding class.file)

abbrev pub sizes_of : List LinkedClass → ℕ
sizes_of [] = 0
sizes_of (class ∷ classes) = size_of class + sizes_of classes

-- These words name what was written of the program, in its order, with the same main class, and a listing and a policy that are read
-- as those of which it was woven; there are no more class files than may be given, and they are not too long.
pub record NamesWritten {seen : Seen} {main_class folder : List ℕ} {weaving : Weaving} {inputs : InlineInputs} (done : IsWovenInto seen main_class folder weaving inputs) (check : NamedCheck)
    : Type 0 where
  pub listing : IsRead seen.new check.listing listing_form (Ok inputs.listing)
  pub policy : IsRead seen.new check.policy (policy_form inputs.listing) (Ok inputs.policy)
  pub certificate : check.certificate ≡ certificate_name folder
  pub main : check.main ≡ main_class
  pub classes : check.classes ≡ map (class_name folder) done.planned.rewoven.program.classes
  pub few : length done.planned.rewoven.program.classes ≤ max_files
  pub short : AllByRecursion (λ (c : LinkedClass). size_of c ≤ 1048576) done.planned.rewoven.program.classes
  pub total : sizes_of done.planned.rewoven.program.classes ≤ 16777216

-- What `check` comes to then, without a fault of the store, is yes: its status is 0.
abbrev pub WrittenIsAccepted : Type 0
WrittenIsAccepted =
    (seen : Seen) (main folder : List ℕ) (weaving : Weaving) (inputs : InlineInputs) → IsSome seen.old
    → (done : IsWovenInto seen main folder weaving inputs) → (check : NamedCheck) → NamesWritten done check → (again : Seen) (outcome : Outcome) → again.old ≡ seen.new
    → CarriesOut again (Check check) (outcome_step outcome) → (Rose again.count.before again.count.now → ⊥)
    → status_of outcome ≡ statuses.Done
