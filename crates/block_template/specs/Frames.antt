-- The types before each instruction of a block, told of the types before its call and after it. (docs/BLOCKS.md)
use Rattle.std.specs.Prelude.{
  ℕ,
  zero,
  suc,
  ◌-◌,
  Bool,
  true,
  false,
  if◌then◌else◌,
  codes,
  List,
  [],
  ◌∷◌,
  ◌++◌,
  length,
  map,
  drop,
  replicate,
  Option,
  Some,
  None,
}
use Rattle.std.specs.Option.{option_map_or}
use Rattle.api_listing.specs.BuiltIn.{throwable}
use Rattle.cert_format.specs.declared.typing.FrameType.{FrameType}
use Rattle.cert_format.specs.declared.typing.VType.{VType}
use Rattle.cert_format.specs.declared.typing.VType.TheVariants as types
use Rattle.bytecode_model.specs.Makes.{below, topmost}
use Rattle.bytecode_model.specs.Rules.{when_thrown}
use Rattle.conspec_tree.specs.declared.types.Kind.{Kind}
use Rattle.conspec_tree.specs.declared.types.Phase.{Phase}
use Rattle.conspec_tree.specs.declared.types.Phase.TheVariants.{Before, After, Exceptional}
use Rattle.conspec_automaton.specs.declared.policy.Clause.{Clause}
use Rattle.block_template.specs.declared.item.Role.{Role}
use Rattle.block_template.specs.declared.item.Role.TheVariants as roles
use Rattle.block_template.specs.Blocks.{Clauses}
use Rattle.block_template.specs.declared.steps.Operand.{Operand}
use Rattle.block_template.specs.declared.steps.Operand.TheVariants as operands
use Rattle.block_template.specs.declared.steps.Step.{Step}
use Rattle.block_template.specs.Flow.{asking, keeps_result, updating}
use Rattle.block_template.specs.Steps.{stack_before}

-- The types before a call, and after it with what it gives on top; and where the client's locals end.
pub record Around : Type 0 where
  pub before : FrameType
  pub after : FrameType
  pub base : ℕ

-- ---- locals

-- the client's locals, up to where they end
abbrev pub padded : ℕ → List VType → List VType
padded base locals = locals ++ replicate (base - length locals) types.Top

-- the kinds of the arguments that the block keeps, and how many there are
abbrev pub argument_kinds : Clauses → List Kind
argument_kinds clauses = option_map_or (λ (c : Clause). c.args) clauses.before []

abbrev pub kept_arguments : Clauses → ℕ
kept_arguments clauses = length (argument_kinds clauses)

-- the arguments that the block keeps
abbrev pub kept_types : Clauses → Around → List VType
kept_types clauses around = topmost (kept_arguments clauses) around.before.stack

-- Each argument that is kept has a local after the client's; so many have none yet.
abbrev pub saved_locals : Clauses → Around → ℕ → List VType
saved_locals clauses around left =
    padded around.base around.before.locals ++ (replicate left types.Top ++ drop left (kept_types clauses around))

-- the result that the block keeps, in its local
abbrev pub kept_result : Clauses → Around → List VType
kept_result clauses around = if keeps_result clauses then topmost 1 around.after.stack else []

-- the operands after the call, where the result is kept without it
abbrev pub left_operands : Clauses → Around → List VType
left_operands clauses around = if keeps_result clauses then below 1 around.after.stack else around.after.stack

-- ---- a phase

abbrev pub frame : List VType → List VType → FrameType
frame locals stack = record { locals = locals; stack = stack }

-- while a check of this phase is made
abbrev pub phase_frame : Clauses → Around → Phase → FrameType
phase_frame clauses around Before = frame (saved_locals clauses around 0) (below (kept_arguments clauses) around.before.stack)
phase_frame clauses around After =
    frame (padded around.base around.after.locals ++ kept_result clauses around) (left_operands clauses around)
phase_frame clauses around Exceptional = frame (map when_thrown (padded around.base around.before.locals)) (types.Ref throwable ∷ [])

abbrev pub with_pushed : FrameType → List VType → FrameType
with_pushed below pushed = frame below.locals (below.stack ++ pushed)

-- ---- what a block has pushed

abbrev pub class_pushed : Bool → List VType
class_pushed true = types.Ref (codes "java/lang/Class") ∷ []
class_pushed false = []

-- what the verifier sees of an operand: each is a number
abbrev pub operand_type : Operand → VType
operand_type (operands.Base asked) = types.Int
operand_type (operands.Number n) = types.Int
operand_type (operands.Sum var by) = types.Int

abbrev pub types_before : List Step → ℕ → List VType
types_before steps done = map operand_type (stack_before steps done)

-- of the way out so many are done
abbrev pub stop_pushed : ℕ → List VType
stop_pushed zero = []
stop_pushed (suc zero) = types.Int ∷ []
stop_pushed (suc (suc zero)) = []
stop_pushed (suc (suc (suc done))) = types.Null ∷ []

-- ---- a role

abbrev pub frame_at : Clauses → Around → Role → Option FrameType
frame_at clauses around (roles.Save left) =
    Some (frame (saved_locals clauses around left) (below (kept_arguments clauses - left) around.before.stack))
frame_at clauses around (roles.Lock phase pushed) = Some (with_pushed (phase_frame clauses around phase) (class_pushed pushed))
frame_at clauses around (roles.Ask phase branch atom done) =
    Some (with_pushed (phase_frame clauses around phase) (types_before (asking clauses phase branch atom) done))
frame_at clauses around (roles.Update phase branch update done) =
    Some (with_pushed (phase_frame clauses around phase) (types_before (updating clauses phase branch update) done))
frame_at clauses around (roles.Taken phase branch) = Some (phase_frame clauses around phase)
frame_at clauses around (roles.Stop phase done) = Some (with_pushed (phase_frame clauses around phase) (stop_pushed done))
frame_at clauses around (roles.Unlock phase checked pushed) = Some (with_pushed (phase_frame clauses around phase) (class_pushed pushed))
frame_at clauses around (roles.Load n locked) =
    Some (frame (saved_locals clauses around 0) (below (kept_arguments clauses - n) around.before.stack))
frame_at clauses around (roles.Call locked) = Some (frame (saved_locals clauses around 0) around.before.stack)
frame_at clauses around (roles.Keep locked) = Some (frame (padded around.base around.after.locals) around.after.stack)
frame_at clauses around roles.Give = Some (phase_frame clauses around After)
frame_at clauses around roles.Leave = Some (frame (padded around.base around.after.locals) around.after.stack)
frame_at clauses around roles.Rethrow = Some (phase_frame clauses around Exceptional)
frame_at clauses around roles.Unreached = None
