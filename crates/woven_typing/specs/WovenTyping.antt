-- What is woven of a typed program is typed, for every policy and in both modes. (docs/TYPING.md)
use Rattle.std.specs.Prelude.{◌≡◌, ℕ, ◌+◌, ◌&&◌, Bool, true, false, is_some, slice_get, slice_index, Option, Some, option_map}
use Rattle.cert_format.specs.declared.certificate.Mode.{Mode}
use Rattle.cert_format.specs.declared.typing.FrameType.{FrameType}
use Rattle.cert_format.specs.declared.typing.Typing.{Typing}
use Rattle.insn_codec.specs.declared.insn.Insn.{Insn}
use Rattle.bytecode_model.specs.declared.program.LinkedClass.{LinkedClass}
use Rattle.bytecode_model.specs.declared.program.Method.{Method}
use Rattle.bytecode_model.specs.declared.program.Program.{Program}
use Rattle.bytecode_model.specs.declared.program.Target.{Target}
use Rattle.bytecode_model.specs.declared.program.Target.TheVariants as target
use Rattle.bytecode_model.specs.Named.{AreRightOperands}
use Rattle.bytecode_model.specs.Order.{IsInOrder}
use Rattle.bytecode_model.specs.Rules.{frame_of}
use Rattle.bytecode_model.specs.Layout.{IsLaidOut}
use Rattle.bytecode_model.specs.Sound.{IsSound}
use Rattle.bytecode_model.specs.Typed.{IsTyped, frames_in, frames_told, reached}
use Rattle.conspec_automaton.specs.declared.policy.Policy.{Policy}
use Rattle.conspec_automaton.specs.Next.{has_clauses}
use Rattle.conspec_automaton.specs.Sound.{IsPolicy}
use Rattle.offset_patch.specs.Splicing.{fronts_of}
use Rattle.block_template.specs.declared.item.Item.{Item}
use Rattle.block_template.specs.declared.item.Role.{Role}
use Rattle.block_template.specs.declared.item.Role.TheVariants as roles
use Rattle.block_template.specs.Blocks.{clauses_of, has_block, plan_of}
use Rattle.class_weaving.specs.Outcome.{IsWoven}
use Rattle.class_weaving.specs.Woven.{sites_of}
use Rattle.woven_typing.specs.Framing.{client_of, front_in, item_typed, items_of, low, insn_place, typing_of}
use Rattle.woven_typing.specs.Renaming.{frame_renamed}
use Rattle.woven_typing.specs.Telling.{KnowsThrowable, TellsKinds}

-- What is known of a linked program, a policy that was read over its listing, and of what links of the files that are woven.
pub record IsGiven (old new : Program) (policy : Policy) (mode : Mode) : Type 0 where
  pub read : IsPolicy policy
  pub tells : TellsKinds old.listing policy
  pub sound : IsSound old
  pub right : AreRightOperands old
  pub throws : KnowsThrowable old
  pub woven : IsWoven old (plan_of policy mode) policy.vars new
  pub order : IsInOrder new

-- Where the program is typed, the woven one is, by the frames that are told.
pub record IsTypedSo (old new : Program) (policy : Policy) (mode : Mode) (typing : Typing) : Type 0 where
  pub typed : IsTyped new (typing_of old policy mode typing)
  pub shaped : IsLaidOut new (typing_of old policy mode typing).frames

abbrev pub WovenIsTyped : Type 0
WovenIsTyped =
    (old new : Program) (policy : Policy) (mode : Mode) (typing : Typing) → IsGiven old new policy mode → IsTyped old typing
    → IsLaidOut old typing.frames → IsTypedSo old new policy mode typing

-- ---- which instructions have a frame

-- the front of an instruction
abbrev pub front : Policy → Mode → Method → ℕ → ℕ
front policy mode method at = slice_index (fronts_of (sites_of (plan_of policy mode) method.max_locals method)) at

-- An instruction of a method of the program.
pub record IsInsnAt (program : Program) (own index at : ℕ) (class : LinkedClass) (method : Method) (insn : Insn) (ref : Target) : Type 0 where
  pub class_there : slice_get program.classes own ≡ Some class
  pub method_there : slice_get class.methods index ≡ Some method
  pub insn_there : slice_get method.insns at ≡ Some insn
  pub ref_there : slice_get method.refs at ≡ Some ref

-- the frame of the client's instruction, which is kept where it is no higher than the method's stack may be
abbrev pub kept_frame : Typing → ℕ → LinkedClass → ℕ → Method → ℕ → Option FrameType
kept_frame typing own class index method at = low method.max_stack (frame_of (frames_in class.methods (frames_told typing own) index) at)

abbrev pub is_reached : Role → Bool
is_reached roles.Unreached = false
is_reached other = true

-- The instruction at the index `at` of the woven program has this frame, and is reached where it has one.
pub record IsToldAs (new : Program) (typing : Typing) (own index at : ℕ) (frame : Option FrameType) : Type 0 where
  pub class : LinkedClass
  pub there : slice_get new.classes own ≡ Some class
  pub frame_is : frame_of (frames_in class.methods (frames_told typing own) index) at ≡ frame
  pub reached : reached new typing own index at ≡ is_some frame

-- An instruction without a block has its frame, renamed.
abbrev pub ClientsAreTold : Type 0
ClientsAreTold =
    (old new : Program) (policy : Policy) (mode : Mode) (typing : Typing) → IsGiven old new policy mode → IsLaidOut old typing.frames
    → (own index at : ℕ) (class : LinkedClass) (method : Method) (insn : Insn) (ref : Target)
    → IsInsnAt old own index at class method insn ref → has_block policy ref ≡ false
    → IsToldAs new (typing_of old policy mode typing) own index (front policy mode method at)
    (option_map (frame_renamed (front_in (client_of old policy mode own class method))) (kept_frame typing own class index method at))

-- An instruction of a block has that of its role.
abbrev pub BlocksAreTold : Type 0
BlocksAreTold =
    (old new : Program) (policy : Policy) (mode : Mode) (typing : Typing) → IsGiven old new policy mode → IsLaidOut old typing.frames
    → (own index at : ℕ) (class : LinkedClass) (method : Method) (insn : Insn) (callee : ℕ)
    → IsInsnAt old own index at class method insn (target.ApiMethod callee) → has_clauses policy callee ≡ true
    → (k : ℕ) (item : Item) → slice_get (items_of policy mode method.max_locals callee) k ≡ Some item
    → IsToldAs new (typing_of old policy mode typing) own index (front policy mode method at + k)
    (item_typed (clauses_of policy callee) (front_in (client_of old policy mode own class method))
    (insn_place (client_of old policy mode own class method) at insn (target.ApiMethod callee)) (kept_frame typing own class index method at) item)

-- It is reached exactly where the client's instruction is, and the role is.
abbrev pub BlocksAreReachedSo : Type 0
BlocksAreReachedSo =
    (old new : Program) (policy : Policy) (mode : Mode) (typing : Typing) → IsGiven old new policy mode → IsLaidOut old typing.frames
    → (own index at : ℕ) (class : LinkedClass) (method : Method) (insn : Insn) (callee : ℕ)
    → IsInsnAt old own index at class method insn (target.ApiMethod callee) → has_clauses policy callee ≡ true
    → (k : ℕ) (item : Item) → slice_get (items_of policy mode method.max_locals callee) k ≡ Some item
    → reached new (typing_of old policy mode typing) own index (front policy mode method at + k)
    ≡ (is_some (kept_frame typing own class index method at) && is_reached item.role)
