-- The program that class files link to, and its types; or the first thing for which a command ends there. (docs/COMMANDS.md)
use Rattle.std.specs.Prelude.{◌≡◌, ℕ, nat_lt, List, if◌then◌else◌, Ok, Err}
use Rattle.api_listing.specs.declared.types.Listing.{Listing}
use Rattle.bytecode_model.specs.declared.program.Program.{Program}
use Rattle.bytecode_model.specs.declared.program.Side.{Side}
use Rattle.bytecode_model.specs.declared.program.Side.TheVariants.{Inlined}
use Rattle.bytecode_model.specs.Typed.{IsTyped}
use Rattle.cert_format.specs.declared.typing.Typing.{Typing}
use Rattle.class_linking.specs.declared.fault.LinkFault.{LinkFault}
use Rattle.class_linking.specs.declared.fault.LinkFault.TheVariants as links
use Rattle.class_linking.specs.Fault.{Linked}
use Rattle.class_linking.specs.Linking.{assembled, linked}
use Rattle.class_codec.specs.declared.tree.ClassFile.{ClassFile}
use Rattle.command_inputs.specs.declared.named.ReadClasses.{ReadClasses as Classes}
use Rattle.inliner_tool.specs.declared.refusal.Ended.{Ended}
use Rattle.inliner_tool.specs.declared.refusal.Ended.TheVariants as ends
use Rattle.inliner_tool.specs.declared.refusal.Refusal.TheVariants as refusals
use Rattle.inliner_tool.specs.Classes.{label_of}
use Rattle.inliner_tool.specs.Steps.{Step}
use Rattle.type_infer.specs.Untyped.{IsLeast, IsUntypedAt}

-- ---- programs

-- why files do not link
abbrev pub link_end : LinkFault → Ended
link_end links.Memory = ends.Memory
link_end fault = ends.Refused (refusals.Link fault)

abbrev pub link_step : Linked Program → Step Program
link_step (Ok program) = Ok program
link_step (Err fault) = Err (link_end fault)

-- what a step gives, where the class files have at most 16 MiB in all
abbrev pub within_total : {A : Type 0} → Classes → Step A → Step A
within_total classes step = if nat_lt 16777216 classes.total then Err (ends.Refused (refusals.TotalLong classes.total)) else step

-- The class files are not too long in all, and link on this side.
abbrev pub program_of : Listing → Classes → List ℕ → Side → Step Program
program_of listing classes main side = within_total classes (link_step (linked classes.files listing main side))

-- what class files that were woven link to, which may be one more than may be given
abbrev pub woven_links : List ClassFile → Listing → List ℕ → Linked Program
woven_links files listing main = assembled files listing main Inlined

-- The types fit, and they are the least that do.
pub record AreTypes (program : Program) (typing : Typing) : Type 0 where
  pub typed : IsTyped program typing
  pub least : IsLeast program typing

-- Types fit, and the least are given; or none do, and the first instruction is told up to which none fit, of the first method
-- without types.
abbrev pub Types : Program → Step Typing → Type 0
Types program (Ok typing) = AreTypes program typing
Types program (Err ended) = (class : ℕ) × (method : ℕ) × (at : ℕ) × (ended ≡ ends.Refused (refusals.Untyped (label_of program class) method at)) × IsUntypedAt program class method at
