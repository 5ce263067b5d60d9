-- What weaving makes of a linked client: what is known of it, and with which static fields it starts. (docs/TRANSPARENCY.md)
use Rattle.std.specs.Prelude.{◌≡◌, ◌<◌, ℕ, List, [], ◌∷◌, ◌++◌, length, map, slice_get, Some}
use Rattle.std.specs.List.{AllByRecursion, filter_map}
use Rattle.class_codec.specs.declared.tree.Const.{Const}
use Rattle.class_codec.specs.declared.tree.Member.{Member}
use Rattle.bytecode_model.specs.declared.program.LinkedClass.{LinkedClass}
use Rattle.bytecode_model.specs.declared.program.Program.{Program}
use Rattle.bytecode_model.specs.declared.program.Side.{Side}
use Rattle.bytecode_model.specs.declared.program.Side.TheVariants as sides
use Rattle.bytecode_model.specs.LinkedClasses.{IsLinkedOf}
use Rattle.bytecode_model.specs.Sound.{IsSound}
use Rattle.cert_format.specs.declared.certificate.Mode.{Mode}
use Rattle.conspec_automaton.specs.declared.policy.Policy.{Policy}
use Rattle.conspec_automaton.specs.Next.{initial}
use Rattle.conspec_automaton.specs.Sound.{IsPolicy}
use Rattle.block_template.specs.Blocks.{plan_of}
use Rattle.block_template.specs.Good.{HasNumbers}
use Rattle.class_weaving.specs.Outcome.{IsWoven}
use Rattle.class_weaving.specs.Woven.{AllLocalsFit}
use Rattle.guest_heap.specs.declared.value.Value.TheVariants as values
use Rattle.guest_model.specs.Layout.{constant_bytes, statics_of, two_bytes}
use Rattle.guest_erasing.specs.Adding.{AddsState}
use Rattle.typed_runs.specs.Programs.{IsLinkedProgram}
use Rattle.block_runs.specs.Joining.{IsWovenBy, sites}

-- ---- the two programs

-- A compiler's files link to the client, over a listing that was read.
pub record IsLinkedClient (client : Program) : Type 0 where
  pub links : IsLinkedProgram client
  pub original : links.side ≡ sides.Original

-- The policy was read; the woven program is the client with its blocks and with conspec/State, and files link to it.
pub record IsWovenClient (policy : Policy) (mode : Mode) (client woven : Program) : Type 0 where
  pub policy_is : IsPolicy policy
  pub numbers : HasNumbers policy
  pub woven_is : IsWoven client (plan_of policy mode) policy.vars woven
  pub side : Side
  pub main : List ℕ
  pub linked : IsLinkedOf side woven.listing main woven
  pub sound : IsSound woven

-- ---- what is known of them

-- The plan is good, the locals of its blocks fit, and all is known of the two that lifting asks for.
abbrev pub WovenClientsAreKnown : Type 0
WovenClientsAreKnown =
    (policy : Policy) (mode : Mode) (client woven : Program) → IsLinkedClient client → IsWovenClient policy mode client woven
    → IsWovenBy policy mode client woven

-- The locals of its blocks fit after those of the client's methods.
abbrev pub WovenClientsHaveRoom : Type 0
WovenClientsHaveRoom =
    (policy : Policy) (mode : Mode) (client woven : Program) → IsLinkedClient client → IsWovenClient policy mode client woven
    → AllLocalsFit (plan_of policy mode) client

-- ---- how it starts

-- What the first ConstantValue of the field names is a constant of its file: an index that names nothing there may name what weaving
-- adds. (The Java Virtual Machine Specification, section 4.7.2.)
abbrev pub NamesConstant : List Const → Member → Type 0
NamesConstant pool field =
    (bytes : List ℕ) (index : ℕ) → slice_get (filter_map (constant_bytes pool) field.attrs) 0 ≡ Some bytes → two_bytes bytes ≡ Some index
    → index < length pool

abbrev pub ConstantsAreThere : Program → Type 0
ConstantsAreThere program =
    AllByRecursion (λ (c : LinkedClass). AllByRecursion (NamesConstant c.file.pool) c.file.fields) program.classes

-- It is the client with blocks and conspec/State, whose static fields start as the first state of the policy.
pub record StartsInFirst (policy : Policy) (mode : Mode) (client woven : Program) : Type 0 where
  pub adds : AddsState (sites policy mode) client woven
  pub statics : statics_of woven ≡ statics_of client ++ map values.Int (initial policy) ∷ []

abbrev pub WovenStartsInFirst : Type 0
WovenStartsInFirst =
    (policy : Policy) (mode : Mode) (client woven : Program) → IsLinkedClient client → ConstantsAreThere client
    → IsWovenClient policy mode client woven → StartsInFirst policy mode client woven
