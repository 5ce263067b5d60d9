-- Where the instructions of woven methods come from. (docs/BLOCKS.md)
use Rattle.std.specs.Prelude.{◌≡◌, ◌≢◌, ℕ, ◌+◌, is_some, if◌then◌else◌, List, [], ◌∷◌, length, map, slice_get, slice_index, Some, Ok, ⊤}
use Rattle.class_codec.specs.declared.tree.ClassFile.{ClassFile}
use Rattle.class_codec.specs.declared.tree.Const.{Const}
use Rattle.class_codec.specs.declared.tree.Member.{Member}
use Rattle.insn_codec.specs.declared.insn.Insn.{Insn}
use Rattle.api_listing.specs.declared.types.Listing.{Listing}
use Rattle.bytecode_model.specs.declared.program.LinkedClass.{LinkedClass}
use Rattle.bytecode_model.specs.declared.program.Method.{Method}
use Rattle.bytecode_model.specs.declared.program.Program.{Program}
use Rattle.bytecode_model.specs.declared.program.Side.TheVariants as sides
use Rattle.class_linking.specs.Linking.{assembled}
use Rattle.conspec_tree.specs.declared.types.Var.{Var}
use Rattle.offset_patch.specs.Origins.{StandAsTold}
use Rattle.offset_patch.specs.Plan.{Plan, IsGood}
use Rattle.bytecode_model.specs.Sound.{IsSound}
use Rattle.offset_patch.specs.declared.block.Block.{Block}
use Rattle.offset_patch.specs.declared.block.BlockInsn.{BlockInsn}
use Rattle.offset_patch.specs.declared.block.BlockInsn.TheVariants.{Call}
use Rattle.bytecode_model.specs.declared.origin.Origin.{Origin}
use Rattle.bytecode_model.specs.declared.origin.Origin.TheVariants as origins
use Rattle.offset_patch.specs.Splicing.{fronts_of, aimed, put}
use Rattle.class_weaving.specs.declared.woven.Woven.{Woven}
use Rattle.class_weaving.specs.Woven.{is_woven, sites_of, first_code, woven}
use Rattle.class_weaving.specs.Outcome.{Each, insns_woven}

-- ---- a method

-- where the parts of a method's instructions begin
abbrev pub fronts_in : Plan → Method → List ℕ
fronts_in plan method = fronts_of (sites_of plan method.max_locals method)

-- an instruction of the method, with its targets at their fronts
abbrev pub insn_woven : Plan → Method → Insn → Insn
insn_woven plan method insn = if is_woven plan method then aimed (fronts_in plan method) insn else insn

-- The instruction is the client's instruction of this index.
pub record IsClients (plan : Plan) (method : Method) (insn : Insn) (index : ℕ) : Type 0 where
  pub own : Insn
  pub there : slice_get method.insns index ≡ Some own
  pub is : insn ≡ insn_woven plan method own

-- The instruction at `at` stands at this place of the block for the client's instruction `site`, and is the block's.
pub record IsOfBlock (plan : Plan) (pool : List Const) (method : Method) (at : ℕ) (insn : Insn) (site place : ℕ) : Type 0 where
  pub block : Block
  pub stands : slice_get (sites_of plan method.max_locals method) site ≡ Some (Some block)
  pub from : at ≡ slice_index (fronts_in plan method) site + place
  pub item : BlockInsn
  pub there : slice_get block.insns place ≡ Some item
  pub other : item ≢ Call
  pub own : Insn
  pub for : slice_get method.insns site ≡ Some own
  pub is : insn ≡ put pool (fronts_in plan method) (slice_index (fronts_in plan method) site) own item

-- The instruction at `at` is from where the origin says.
abbrev pub IsFrom : Plan → List Const → Method → ℕ → Insn → Origin → Type 0
IsFrom plan pool method at insn (origins.Client index) = IsClients plan method insn index
IsFrom plan pool method at insn (origins.Block site place) = IsOfBlock plan pool method at insn site place

-- Each instruction from `at` on is from where its origin says.
abbrev pub AreFrom : Plan → List Const → Method → ℕ → List Insn → List Origin → Type 0
AreFrom plan pool method at [] [] = ⊤
AreFrom plan pool method at [] (origin ∷ told) = ⊥
AreFrom plan pool method at (insn ∷ insns) [] = ⊥
AreFrom plan pool method at (insn ∷ insns) (origin ∷ told) = IsFrom plan pool method at insn origin × AreFrom plan pool method (at + 1) insns told

abbrev pub MethodIsFrom : Plan → List Const → Method → List Origin → Type 0
MethodIsFrom plan pool method told = AreFrom plan pool method 0 (insns_woven plan pool method) told

-- ---- classes

-- the methods whose member has code
abbrev pub with_code : List Method → List Member → List Method
with_code [] members = []
with_code (method ∷ methods) [] = []
with_code (method ∷ methods) (member ∷ members) =
    if is_some (first_code member.attrs) then method ∷ with_code methods members else with_code methods members

-- It holds of each method with code of a class, whose blocks name constants of the new file, and of the origins that are told of it.
abbrev pub ClassTells : (List Const → Method → List Origin → Type 0) → LinkedClass → ClassFile → List (List Origin) → Type 0
ClassTells Holds class file told = Each (Holds file.pool) (with_code class.methods class.file.methods) told

-- So it is of the classes, and of conspec/State, which has no method.
abbrev pub ClassesTell : (List Const → Method → List Origin → Type 0) → List LinkedClass → List ClassFile → List (List (List Origin)) → Type 0
ClassesTell Holds [] (state ∷ []) (told ∷ []) = told ≡ []
ClassesTell Holds (class ∷ classes) (file ∷ files) (told ∷ others) = ClassTells Holds class file told × ClassesTell Holds classes files others
ClassesTell Holds classes files told = ⊥

-- ---- the laws

-- Each origin that is told of what a linked program is woven to is true.
abbrev pub OriginsAreTrue : Type 0
OriginsAreTrue =
    (files : List ClassFile) (listing : Listing) (main : List ℕ) (old : Program) (plan : Plan) (vars : List Var) (made : Woven)
    → assembled files listing main sides.Original ≡ Ok old → IsSound old → woven old plan vars ≡ Ok made
    → ClassesTell (MethodIsFrom plan) old.classes made.files made.origins

-- A method that is woven has an origin for each instruction, and each instruction stands where its origin tells: the client's of an
-- index at its front and as far after as the call stands in its block.
pub record MethodIsLaid (plan : Plan) (pool : List Const) (method : Method) (told : List Origin) : Type 0 where
  pub each : length told ≡ length (insns_woven plan pool method)
  pub stand : StandAsTold (sites_of plan method.max_locals method) 0 told

-- What a good plan makes of a linked program is laid out as its origins are: class by class, and each method with code.
abbrev pub OriginsAreLaidOut : Type 0
OriginsAreLaidOut =
    (files : List ClassFile) (listing : Listing) (main : List ℕ) (old : Program) (plan : Plan) (vars : List Var) (made : Woven)
    → assembled files listing main sides.Original ≡ Ok old → IsSound old → IsGood (map (λ (v : Var). v.is_bool) vars) plan
    → woven old plan vars ≡ Ok made → ClassesTell (MethodIsLaid plan) old.classes made.files made.origins
