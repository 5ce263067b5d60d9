-- Each instruction of a block meets the rules of typing: the types before it are told by its role. (docs/BLOCKS.md)
use Rattle.std.specs.Prelude.{
  ◌≡◌,
  ℕ,
  ◌+◌,
  ◌≤◌,
  ℤ,
  Bool,
  true,
  false,
  codes,
  List,
  [],
  ◌∷◌,
  length,
  map,
  Some,
  None,
  is_some,
  slice_get,
  IfSome,
}
use Rattle.class_codec.specs.declared.tree.Const.{Const}
use Rattle.cert_format.specs.declared.certificate.Mode.{Mode}
use Rattle.cert_format.specs.declared.typing.FrameType.{FrameType}
use Rattle.cert_format.specs.declared.typing.VType.{VType}
use Rattle.insn_codec.specs.declared.shape.Heap.TheVariants as heap
use Rattle.insn_codec.specs.declared.shape.How.{How}
use Rattle.insn_codec.specs.declared.insn.Insn.{Insn}
use Rattle.insn_codec.specs.declared.shape.ValueKind.{ValueKind as Operand}
use Rattle.insn_codec.specs.declared.shape.ValueKind.TheVariants as operands
use Rattle.insn_codec.specs.declared.shape.Shape.TheVariants as shapes
use Rattle.insn_codec.specs.Shapes.{shape_of}
use Rattle.bytecode_model.specs.declared.program.Handler.{Handler}
use Rattle.bytecode_model.specs.declared.program.Method.{Method}
use Rattle.bytecode_model.specs.declared.program.Program.{Program}
use Rattle.bytecode_model.specs.declared.program.Target.TheVariants as target
use Rattle.bytecode_model.specs.Makes.{local_after, stack_after, topmost, type_at}
use Rattle.bytecode_model.specs.InsnPlace.{InsnPlace, desc_referred, name_referred}
use Rattle.bytecode_model.specs.Rules.{
  Depth,
  Operand as TakesOperands,
  Local,
  Made,
  catches_well,
  goes_well,
  local_caught,
  locals_fit,
  taken,
}
use Rattle.bytecode_model.specs.Wants.{Want, all_met, of_kind, takes}
use Rattle.conspec_tree.specs.declared.types.Kind.{Kind}
use Rattle.conspec_tree.specs.declared.types.Kind.TheVariants as kinds
use Rattle.conspec_tree.specs.declared.types.Phase.{Phase}
use Rattle.conspec_tree.specs.declared.types.Phase.TheVariants.{Before, After, Exceptional}
use Rattle.conspec_tree.specs.declared.types.Var.{Var}
use Rattle.conspec_automaton.specs.declared.policy.Policy.{Policy}
use Rattle.conspec_automaton.specs.Sound.{IsClauseIn, IsPolicy}
use Rattle.offset_patch.specs.declared.block.BlockInsn.{BlockInsn}
use Rattle.offset_patch.specs.declared.block.PoolWant.{PoolWant}
use Rattle.offset_patch.specs.declared.block.PoolWant.TheVariants.{StateClass, StateField, Exit, Integer}
use Rattle.offset_patch.specs.Entries.{variable_type}
use Rattle.offset_patch.specs.Splicing.{is_call, operands_needed, put, want_of}
use Rattle.block_template.specs.declared.item.Item.{Item}
use Rattle.block_template.specs.declared.item.Role.{Role}
use Rattle.block_template.specs.declared.item.Role.TheVariants as roles
use Rattle.block_template.specs.Blocks.{Clauses, clauses_of, items, kept, locals_used}
use Rattle.block_template.specs.Flow.{
  AreForPhases,
  clause_in,
  insn_of,
  jump_of,
  jumps,
  may_pass,
  next,
  result_in,
  after_return,
  role_at,
  thrown,
}
use Rattle.block_template.specs.Frames.{Around, argument_kinds, frame_at, kept_arguments, kept_types}
use Rattle.block_template.specs.Reached.{IsReached}

-- ---- what is known of a call and its clauses

-- what holds a value of a kind
abbrev pub operand_of : Kind → Operand
operand_of kinds.Object = operands.Reference
operand_of kinds.Int = operands.Int
operand_of kinds.Bool = operands.Int
operand_of kinds.Byte = operands.Int
operand_of kinds.Short = operands.Int
operand_of kinds.Char = operands.Int

abbrev pub kept_kind : Kind → Want
kept_kind kind = of_kind (operand_of kind)

-- The client's locals end at the base. What is kept is on top, and of its kind: the arguments before the call, and the result after it.
pub record FitsAround (clauses : Clauses) (around : Around) : Type 0 where
  pub before : length around.before.locals ≤ around.base
  pub after : length around.after.locals ≤ around.base
  pub arguments : all_met (map kept_kind (argument_kinds clauses)) (kept_types clauses around) ≡ true
  pub result : IfSome (result_in clauses) (λ kind. all_met (kept_kind kind ∷ []) (topmost 1 around.after.stack) ≡ true)

-- Each clause is one of a policy with such variables.
abbrev pub AreClausesIn : List Var → ℤ → Clauses → Type 0
AreClausesIn vars maxint clauses = (phase : Phase) → IfSome (clause_in clauses phase) (IsClauseIn vars maxint)

-- ---- what is known of a place

-- A method has room for what the block pushes and keeps.
pub record HasRoom (clauses : Clauses) (around : Around) (method : Method) : Type 0 where
  pub before : length around.before.stack + operands_needed ≤ method.max_stack
  pub after : length around.after.stack + operands_needed ≤ method.max_stack
  pub arguments : around.base + kept_arguments clauses ≤ method.max_locals
  pub result : around.base + kept (result_in clauses) ≤ method.max_locals

-- The operand names what is wanted.
abbrev pub Names : InsnPlace → PoolWant → Type 0
Names place StateClass = (name : List ℕ) × (place.ref ≡ target.ClassName name)
Names place (StateField var is_bool) = desc_referred place ≡ variable_type is_bool
Names place Exit = (name_referred place ≡ codes "exit") × (desc_referred place ≡ codes "(I)V")
Names place (Integer n) = place.ref ≡ target.Number n

-- An instruction of a block stands at the place.
pub record Stands (insn : BlockInsn) (place : InsnPlace) : Type 0 where
  pub pool : List Const
  pub fronts : List ℕ
  pub begin : ℕ
  pub own : Insn
  pub is : place.insn ≡ put pool fronts begin own insn
  pub names : IfSome (want_of insn) (Names place)

-- ---- the law

-- With these types the instruction meets the rules of its place, and what comes after it takes what it leaves, as does what it jumps to.
pub record IsTyped (mode : Mode) (clauses : Clauses) (around : Around) (role : Role) (insn : BlockInsn) (place : InsnPlace) : Type 0 where
  pub types : FrameType
  pub told : frame_at clauses around role ≡ Some types
  pub depth : Depth place types ≡ true
  pub operand : TakesOperands place types ≡ true
  pub local : Local place types ≡ true
  pub made : Made place types ≡ true
  pub passes : may_pass insn ≡ true → IfSome (frame_at clauses around (next mode clauses role)) (λ to. goes_well place types to ≡ true)
  pub lands : is_some (jump_of insn) ≡ true
      → IfSome (frame_at clauses around (jumps mode clauses role)) (λ to. goes_well place types to ≡ true)

-- So it is of each role that has an instruction; the call itself is the client's.
abbrev pub BlocksAreTyped : Type 0
BlocksAreTyped =
    (mode : Mode) (bools : List Bool) (vars : List Var) (maxint : ℤ) (clauses : Clauses) (around : Around) (end to : ℕ)
    → AreForPhases clauses → AreClausesIn vars maxint clauses → FitsAround clauses around
    → (role : Role) (insn : BlockInsn) → insn_of bools around.base clauses end to role ≡ Some insn → is_call insn ≡ false
    → (place : InsnPlace) → Stands insn place → HasRoom clauses around place.method → IsTyped mode clauses around role insn place

-- ---- what the client catches

-- the client's locals, at a role: those before the call, or after it
abbrev pub phase_locals : Around → Phase → List VType
phase_locals around Before = around.before.locals
phase_locals around After = around.after.locals
phase_locals around Exceptional = around.before.locals

abbrev pub client_locals : Around → Role → List VType
client_locals around (roles.Save left) = around.before.locals
client_locals around (roles.Lock phase pushed) = phase_locals around phase
client_locals around (roles.Ask phase branch atom done) = phase_locals around phase
client_locals around (roles.Update phase branch update done) = phase_locals around phase
client_locals around (roles.Taken phase branch) = phase_locals around phase
client_locals around (roles.Stop phase done) = phase_locals around phase
client_locals around (roles.Unlock phase checked pushed) = phase_locals around phase
client_locals around (roles.Load n locked) = around.before.locals
client_locals around (roles.Call locked) = around.before.locals
client_locals around (roles.Keep locked) = around.after.locals
client_locals around roles.Give = around.after.locals
client_locals around roles.Leave = around.after.locals
client_locals around roles.Rethrow = around.before.locals
client_locals around roles.Unreached = []

-- What takes the client's locals where they are caught takes those of each instruction of the block.
abbrev pub CatchesAreTyped : Type 0
CatchesAreTyped =
    (program : Program) (clauses : Clauses) (around : Around) (role : Role) (types : FrameType) (to : List VType)
    → frame_at clauses around role ≡ Some types
    → locals_fit program (local_caught (client_locals around role)) 0 to ≡ true → locals_fit program (local_caught types.locals) 0 to ≡ true

-- ---- the call

-- The call itself, of which the types after are those that it leaves.
pub record IsCallOf (around : Around) (place : InsnPlace) : Type 0 where
  pub how : How
  pub call : shape_of place.insn ≡ shapes.Heap (heap.Call how)
  pub stack : around.after.stack ≡ stack_after place around.before.locals (length (takes place)) around.before.stack
  pub locals : (j : ℕ) → type_at around.after.locals j ≡ local_after place around.before.locals (taken place around.before) j

-- It meets the rules in its block as it did before; what comes where it returns takes what it leaves, and what comes where it throws
-- takes what is caught of it.
pub record CallIsTyped (mode : Mode) (clauses : Clauses) (around : Around) (locked : Bool) (place : InsnPlace) : Type 0 where
  pub types : FrameType
  pub told : frame_at clauses around (roles.Call locked) ≡ Some types
  pub depth : Depth place around.before ≡ true → Depth place types ≡ true
  pub operand : TakesOperands place around.before ≡ true → TakesOperands place types ≡ true
  pub local : Local place types ≡ true
  pub made : Made place around.before ≡ true → Made place types ≡ true
  pub returns : IfSome (frame_at clauses around (after_return mode clauses.after)) (λ to. goes_well place types to ≡ true)
  pub throws : (handler : Handler) → handler.class ≡ None
      → IfSome (frame_at clauses around (thrown mode clauses.exceptional)) (λ to. catches_well place types handler to ≡ true)

abbrev pub CallsAreTyped : Type 0
CallsAreTyped =
    (mode : Mode) (clauses : Clauses) (around : Around) (locked : Bool) → FitsAround clauses around
    → (place : InsnPlace) → IsCallOf around place → HasRoom clauses around place.method → CallIsTyped mode clauses around locked place

-- ---- a block

-- The instruction with these types goes to a role that has types, and these take what it leaves.
abbrev pub GoesTo : Clauses → Around → InsnPlace → FrameType → Role → Type 0
GoesTo clauses around place types role =
    (to : FrameType) × (frame_at clauses around role ≡ Some to) × (goes_well place types to ≡ true)

-- The item at an index, where `there` tells the role at each index.
pub record ItemIsTyped (clauses : Clauses) (around : Around) (there : ℕ → Role) (at : ℕ) (i : Item) (place : InsnPlace) : Type 0 where
  pub types : FrameType
  pub told : frame_at clauses around i.role ≡ Some types
  pub depth : Depth place types ≡ true
  pub operand : TakesOperands place types ≡ true
  pub local : Local place types ≡ true
  pub made : Made place types ≡ true
  pub passes : may_pass i.insn ≡ true → GoesTo clauses around place types (there (at + 1))
  pub lands : IfSome (jump_of i.insn) (λ index. GoesTo clauses around place types (there index))

-- So it is of each instruction of a block that is reached.
abbrev pub ItemsAreTyped : Type 0
ItemsAreTyped =
    (mode : Mode) (bools : List Bool) (vars : List Var) (maxint : ℤ) (clauses : Clauses) (around : Around)
    → AreForPhases clauses → AreClausesIn vars maxint clauses → FitsAround clauses around
    → (at : ℕ) (i : Item) → slice_get (items mode bools around.base clauses) at ≡ Some i → IsReached i.role → is_call i.insn ≡ false
    → (place : InsnPlace) → Stands i.insn place → HasRoom clauses around place.method
    → ItemIsTyped clauses around (role_at (items mode bools around.base clauses)) at i place

-- ---- the clauses of a policy

-- Those of a method are such as the laws above ask for, and the locals that its blocks use hold what is kept.
pub record AreAsked (policy : Policy) (method : ℕ) : Type 0 where
  pub phases : AreForPhases (clauses_of policy method)
  pub clauses : AreClausesIn policy.vars policy.maxint (clauses_of policy method)
  pub arguments : kept_arguments (clauses_of policy method) ≤ locals_used policy method
  pub result : kept (result_in (clauses_of policy method)) ≤ locals_used policy method

abbrev pub ClausesAreAsked : Type 0
ClausesAreAsked = (policy : Policy) (method : ℕ) → IsPolicy policy → AreAsked policy method
