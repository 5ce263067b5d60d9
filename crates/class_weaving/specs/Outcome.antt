-- What class files that were woven link to: the classes of the program, in which each instruction to which the plan gives a
-- block stands in it, and after them conspec/State. (docs/BLOCKS.md)
use Rattle.std.specs.Prelude.{◌≡◌, ◌≢◌, ℕ, ◌+◌, true, false, if◌then◌else◌, List, [], ◌∷◌, ◌++◌, length, Contains, Some, ⊤}
use Rattle.std.specs.List.{AllByRecursion}
use Rattle.class_codec.specs.declared.tree.Attr.{Attr}
use Rattle.class_codec.specs.declared.tree.Attr.TheVariants as attributes
use Rattle.class_codec.specs.declared.tree.Code.{Code}
use Rattle.class_codec.specs.declared.tree.Const.{Const}
use Rattle.class_codec.specs.declared.tree.Member.{Member}
use Rattle.class_codec.specs.declared.tree.Other.{Other}
use Rattle.insn_codec.specs.declared.insn.Insn.{Insn}
use Rattle.bytecode_model.specs.declared.program.Target.{Target}
use Rattle.bytecode_model.specs.declared.program.Target.TheVariants as target
use Rattle.bytecode_model.specs.Heads.{head_of}
use Rattle.class_codec.specs.Pool.{reference_at}
use Rattle.offset_patch.specs.declared.block.PoolWant.{PoolWant}
use Rattle.offset_patch.specs.declared.block.PoolWant.TheVariants as wants
use Rattle.bytecode_model.specs.declared.program.Handler.{Handler}
use Rattle.bytecode_model.specs.declared.program.LinkedClass.{LinkedClass}
use Rattle.bytecode_model.specs.declared.program.Method.{Method}
use Rattle.bytecode_model.specs.declared.program.Program.{Program}
use Rattle.offset_patch.specs.Entries.{state_name, place_in, with_wants}
use Rattle.offset_patch.specs.Splicing.{attrs_spliced, handlers_with, operands_needed, parts_named, spliced, wants_of}
pub use Rattle.offset_patch.specs.Splicing.{at_fronts, handlers_by, own_handler, own_handlers, part_named, site_handlers, way_out}
use Rattle.offset_patch.specs.Plan.{Plan}
use Rattle.conspec_tree.specs.declared.types.Var.{Var}
use Rattle.class_weaving.specs.State.{state_file}
use Rattle.class_weaving.specs.Woven.{is_woven, sites_of, locals_of, file_with}

-- Two lists have as many items, and those of one place belong together.
abbrev pub Each : {X Y : Type 0} → (X → Y → Type 0) → List X → List Y → Type 0
Each Belong [] [] = ⊤
Each Belong [] (y ∷ ys) = ⊥
Each Belong (x ∷ xs) [] = ⊥
Each Belong (x ∷ xs) (y ∷ ys) = Belong x y × Each Belong xs ys

-- the instructions with their blocks, which name constants of the pool
abbrev pub insns_woven : Plan → List Const → Method → List Insn
insns_woven plan pool method =
    if is_woven plan method then spliced pool method.insns (sites_of plan method.max_locals method) else method.insns

-- a method with a block needs this many operands and local variables
abbrev pub stack_woven : Plan → Method → ℕ
stack_woven plan method = if is_woven plan method then method.max_stack + operands_needed else method.max_stack

abbrev pub locals_woven : Plan → Method → ℕ
locals_woven plan method = if is_woven plan method then method.max_locals + locals_of plan method else method.max_locals

abbrev pub handlers_woven : Plan → Method → List Handler
handlers_woven plan method = if is_woven plan method then handlers_with (sites_of plan method.max_locals method) method.handlers else method.handlers

abbrev pub refs_woven : Plan → ℕ → Method → List Target
refs_woven plan state method =
    if is_woven plan method then parts_named state method.refs (sites_of plan method.max_locals method) else method.refs

-- ---- what is added to the constants

-- what the blocks of a method name in the constant pool, in the order of use
abbrev pub wants_woven : Plan → Method → List PoolWant
wants_woven plan method = if is_woven plan method then wants_of (sites_of plan method.max_locals method) else []

-- those of a class, its methods in their order
abbrev pub class_wants : Plan → List Method → List PoolWant
class_wants plan [] = []
class_wants plan (method ∷ methods) = wants_woven plan method ++ class_wants plan methods

-- ---- members

-- What the attributes of a code are with blocks, which name constants of the pool: its line numbers, each line at the front of the
-- instruction at which it began.
abbrev pub attrs_woven : Plan → List Const → Method → List Other → List Other
attrs_woven plan pool method attrs = attrs_spliced pool method.insns (insns_woven plan pool method) (sites_of plan method.max_locals method) attrs

-- A code without a block is as it was. One with a block has the line numbers that it had.
pub record IsWovenBody (plan : Plan) (pool : List Const) (method : Method) (old new : Code) : Type 0 where
  pub same : is_woven plan method ≡ false → new ≡ old
  pub name : new.name ≡ old.name
  pub attrs : is_woven plan method ≡ true → new.attrs ≡ attrs_woven plan pool method old.attrs

-- An attribute that is no code is as it was.
abbrev pub IsWovenAttr : Plan → List Const → Method → Attr → Attr → Type 0
IsWovenAttr plan pool method (attributes.Code old) (attributes.Code new) = IsWovenBody plan pool method old new
IsWovenAttr plan pool method (attributes.Code old) (attributes.Other new) = ⊥
IsWovenAttr plan pool method (attributes.Other old) (attributes.Code new) = ⊥
IsWovenAttr plan pool method (attributes.Other old) (attributes.Other new) = new ≡ old

-- All but its code is as it was.
pub record IsWovenMember (plan : Plan) (pool : List Const) (method : Method) (old new : Member) : Type 0 where
  pub flags : new.flags ≡ old.flags
  pub name : new.name ≡ old.name
  pub desc : new.desc ≡ old.desc
  pub attrs : Each (IsWovenAttr plan pool method) old.attrs new.attrs

-- So it is of the members of a class, each with its method.
abbrev pub AreWovenMembers : Plan → List Const → List Method → List Member → List Member → Type 0
AreWovenMembers plan pool [] [] [] = ⊤
AreWovenMembers plan pool (method ∷ methods) (old ∷ olds) (new ∷ news) = IsWovenMember plan pool method old new × AreWovenMembers plan pool methods olds news
AreWovenMembers plan pool methods olds news = ⊥

-- ---- methods, classes and programs

-- What a method was, and what it is.
pub record IsWovenMethod (plan : Plan) (state : ℕ) (pool : List Const) (old new : Method) : Type 0 where
  pub flags : new.flags ≡ old.flags
  pub name : new.name ≡ old.name
  pub desc : new.desc ≡ old.desc
  pub max_stack : new.max_stack ≡ stack_woven plan old
  pub max_locals : new.max_locals ≡ locals_woven plan old
  pub insns : new.insns ≡ insns_woven plan pool old
  pub handlers : new.handlers ≡ handlers_woven plan old
  pub refs : new.refs ≡ refs_woven plan state old
  -- where a block stops the program, the pool's way out is that
  pub out : Contains (wants_woven plan old) wants.Exit → reference_at pool (place_in pool wants.Exit) ≡ Some way_out

-- The blocks name constants of the new file, which has all of the old one, each in its place, and after them what the
-- blocks name that was not there, in the order of use. All else of the file is as it was, but the code of its methods.
pub record IsWovenClass (plan : Plan) (state : ℕ) (old new : LinkedClass) : Type 0 where
  pub name : new.name ≡ old.name
  pub parent : new.parent ≡ old.parent
  pub head : head_of new.file ≡ head_of old.file
  pub added : List Const
  pub pool : new.file.pool ≡ old.file.pool ++ added
  pub wanted : new.file.pool ≡ with_wants old.file.pool (class_wants plan old.methods)
  pub file : new.file ≡ file_with old.file new.file.pool new.file.methods
  pub members : AreWovenMembers plan new.file.pool old.methods old.file.methods new.file.methods
  pub methods : Each (IsWovenMethod plan state new.file.pool) old.methods new.methods

-- The class conspec/State of these variables, which has no method.
pub record IsState (vars : List Var) (class : LinkedClass) : Type 0 where
  pub name : class.name ≡ state_name
  pub file : class.file ≡ state_file vars
  pub methods : class.methods ≡ []

-- The classes stand in their order, and conspec/State is the last. The program begins where it began, and has the string
-- constants that it had.
pub record IsWoven (old : Program) (plan : Plan) (vars : List Var) (new : Program) : Type 0 where
  pub own : List LinkedClass
  pub state : LinkedClass
  pub are : new.classes ≡ own ++ state ∷ []
  pub classes : Each (IsWovenClass plan (length old.classes)) old.classes own
  pub last : IsState vars state
  pub listing : new.listing ≡ old.listing
  pub literals : new.literals ≡ old.literals
  pub main_class : new.main_class ≡ old.main_class
  pub main_method : new.main_method ≡ old.main_method

-- ---- names that are kept

-- The operand names nothing of conspec/State.
abbrev pub IsFreeTarget : Target → Type 0
IsFreeTarget (target.ClassName name) = name ≢ state_name
IsFreeTarget other = ⊤

-- Nothing of the program is named as what the tool keeps for itself.
pub record IsFreeOfState (program : Program) : Type 0 where
  pub classes : AllByRecursion (λ (c : LinkedClass). c.name ≢ state_name) program.classes
  pub operands : AllByRecursion (λ (c : LinkedClass). AllByRecursion (λ (m : Method). AllByRecursion IsFreeTarget m.refs) c.methods) program.classes
