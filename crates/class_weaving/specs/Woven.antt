-- What weaving makes of a program: each instruction to which the plan gives a block stands in it, and after the classes
-- stands conspec/State. Or the first size that does not fit. (docs/BLOCKS.md)
use Rattle.std.specs.Prelude.{◌≡◌, ℕ, ◌+◌, ◌<◌, ◌^◌, Bool, true, max, if◌then◌else◌, List, [], ◌∷◌, ◌++◌, length, map, Option, Some, None, slice_get, Ok}
use Rattle.std.specs.Option.{option_to_list}
use Rattle.std.specs.List.{AllByRecursion, list_any}
use Rattle.mon_base.specs.Reading.{◌>>=◌}
use Rattle.class_codec.specs.declared.tree.Attr.{Attr}
use Rattle.class_codec.specs.declared.tree.Attr.TheVariants as attributes
use Rattle.class_codec.specs.declared.tree.ClassFile.{ClassFile}
use Rattle.class_codec.specs.declared.tree.Code.{Code}
use Rattle.class_codec.specs.declared.tree.Const.{Const}
use Rattle.class_codec.specs.declared.tree.Member.{Member}
use Rattle.insn_codec.specs.declared.insn.Insn.{Insn}
use Rattle.bytecode_model.specs.declared.program.LinkedClass.{LinkedClass}
use Rattle.bytecode_model.specs.declared.program.Method.{Method}
use Rattle.bytecode_model.specs.declared.program.Program.{Program}
use Rattle.bytecode_model.specs.declared.program.Target.{Target}
use Rattle.offset_patch.specs.declared.block.Block.{Block}
use Rattle.bytecode_model.specs.declared.origin.Origin.{Origin}
use Rattle.bytecode_model.specs.declared.origin.Origin.TheVariants.{Client}
use Rattle.offset_patch.specs.Fault.{Fitting}
use Rattle.offset_patch.specs.declared.splicing.Spliced.{Spliced}
use Rattle.offset_patch.specs.Splicing.{grown, room, splice}
use Rattle.offset_patch.specs.Plan.{Plan}
use Rattle.conspec_tree.specs.declared.types.Var.{Var}
use Rattle.class_weaving.specs.State.{state_file}
use Rattle.class_weaving.specs.declared.woven.Members.{Members}
use Rattle.class_weaving.specs.declared.woven.Woven.{Woven}

-- one after another, as long as each fits
abbrev pub folded : {S X : Type 0} → (S → X → Fitting S) → S → List X → Fitting S
folded step made [] = Ok made
folded step made (x ∷ xs) = step made x >>= λ next. folded step next xs

-- ---- the code of a method

-- whether one of the instructions has a block
abbrev pub is_woven : Plan → Method → Bool
is_woven plan method = list_any plan.has_block method.refs

-- for each instruction its block, if it has one
abbrev pub sites_of : Plan → ℕ → Method → List (Option Block)
sites_of plan base method = map (plan.block base) method.refs

-- the same, where the blocks' own locals stand after those of the method
abbrev pub plan_sites : Plan → Method → List (Option Block)
plan_sites plan method = sites_of plan method.max_locals method

abbrev pub most_locals : Plan → List Target → ℕ
most_locals plan [] = 0
most_locals plan (ref ∷ refs) = max (plan.locals ref) (most_locals plan refs)

-- the greatest number of locals that a block of the method uses
abbrev pub locals_of : Plan → Method → ℕ
locals_of plan method = most_locals plan method.refs

-- The locals of blocks fit after those of the method, where it has a block.
abbrev pub LocalsFit : Plan → Method → Type 0
LocalsFit plan method = is_woven plan method ≡ true → method.max_locals + locals_of plan method < 2 ^ 16

abbrev pub AllLocalsFit : Plan → Program → Type 0
AllLocalsFit plan program = AllByRecursion (λ (c : LinkedClass). AllByRecursion (LocalsFit plan) c.methods) program.classes

-- Each instruction is the client's.
abbrev pub clients_from : ℕ → List Insn → List Origin
clients_from at [] = []
clients_from at (insn ∷ insns) = Client at ∷ clients_from (at + 1) insns

-- what a method with code becomes, and the constants of its class
pub record WovenCode : Type 0 where
  pub made : Spliced
  pub entries : List Const

-- a method with its blocks, where there is room for them; conspec/State is the class of the index `state`
abbrev pub with_blocks : ℕ → List ℕ → ℕ → List Const → Method → Code → ℕ → List (Option Block) → Fitting WovenCode
with_blocks state class number pool method code locals sites = do
  made ← splice state class number (grown pool sites) method code locals sites
  Ok (record { made = made; entries = grown pool sites })

abbrev pub blocks_put : Plan → ℕ → List ℕ → ℕ → List Const → Method → Code → List (Option Block) → Fitting WovenCode
blocks_put plan state class number pool method code sites = do
  fits ← room class number code (locals_of plan method)
  with_blocks state class number pool method code (locals_of plan method) sites

-- A method without a block stays as it is.
abbrev pub as_it_is : Method → Code → Spliced
as_it_is method code = record { method = method; origins = clients_from 0 method.insns; code = code }

-- The locals of a block stand after the client's.
abbrev pub code_woven : Plan → ℕ → List ℕ → ℕ → List Const → Method → Code → Fitting WovenCode
code_woven plan state class number pool method code =
    if is_woven plan method then blocks_put plan state class number pool method code (sites_of plan code.max_locals method)
    else Ok (record { made = as_it_is method code; entries = pool })

-- ---- the methods of a class

-- the first code among attributes
abbrev pub first_code : List Attr → Option Code
first_code [] = None
first_code (attributes.Code code ∷ attrs) = Some code
first_code (attributes.Other other ∷ attrs) = first_code attrs

abbrev pub attr_with : Code → Attr → Attr
attr_with code (attributes.Code old) = attributes.Code code
attr_with code (attributes.Other other) = attributes.Other other

abbrev pub member_with : Member → Code → Member
member_with member code = record { flags = member.flags; name = member.name; desc = member.desc; attrs = map (attr_with code) member.attrs }

-- after the members that are made, one more without code, and its method
abbrev pub bare_put : Members → Member → Option Method → Members
bare_put made member method = record {
  number = made.number + 1;
  entries = made.entries;
  items = made.items ++ member ∷ [];
  methods = made.methods ++ option_to_list method;
  origins = made.origins;
}

-- one more with code
abbrev pub code_put : Members → Member → WovenCode → Members
code_put made member woven = record {
  number = made.number + 1;
  entries = woven.entries;
  items = made.items ++ member_with member woven.made.code ∷ [];
  methods = made.methods ++ woven.made.method ∷ [];
  origins = made.origins ++ woven.made.origins ∷ [];
}

abbrev pub body_woven : Plan → ℕ → List ℕ → Members → Member → Option Method → Option Code → Fitting Members
body_woven plan state class made member (Some method) (Some code) =
    code_woven plan state class made.number made.entries method code >>= λ woven. Ok (code_put made member woven)
body_woven plan state class made member (Some method) None = Ok (bare_put made member (Some method))
body_woven plan state class made member None code = Ok (bare_put made member None)

abbrev pub member_woven : Plan → ℕ → LinkedClass → Members → Member → Fitting Members
member_woven plan state class made member =
    body_woven plan state class.name made member (slice_get class.methods made.number) (first_code member.attrs)

-- the members one after another, the pool growing
abbrev pub members_woven : Plan → ℕ → LinkedClass → Members → List Member → Fitting Members
members_woven plan state class made members = folded (member_woven plan state class) made members

-- ---- classes

abbrev pub none_made : List Const → Members
none_made pool = record { number = 0; entries = pool; items = []; methods = []; origins = [] }

-- the file with these methods and the constants that they need; all else is as it was
abbrev pub file_with : ClassFile → List Const → List Member → ClassFile
file_with file pool methods = record {
  minor = file.minor;
  pool = pool;
  flags = file.flags;
  this_class = file.this_class;
  super_class = file.super_class;
  interfaces = file.interfaces;
  fields = file.fields;
  methods = methods;
  attrs = file.attrs;
}

-- after what is made, one class more
abbrev pub file_put : Woven → LinkedClass → Members → Woven
file_put woven class made = record {
  files = woven.files ++ file_with class.file made.entries made.items ∷ [];
  methods = woven.methods ++ made.methods ∷ [];
  origins = woven.origins ++ made.origins ∷ [];
}

abbrev pub class_woven : Plan → ℕ → Woven → LinkedClass → Fitting Woven
class_woven plan state woven class =
    members_woven plan state class (none_made class.file.pool) class.file.methods >>= λ made. Ok (file_put woven class made)

-- the classes one after another
abbrev pub classes_woven : Plan → ℕ → Woven → List LinkedClass → Fitting Woven
classes_woven plan state woven classes = folded (class_woven plan state) woven classes

-- ---- the program

abbrev pub nothing_woven : Woven
nothing_woven = record { files = []; methods = []; origins = [] }

-- conspec/State stands after the classes, and has no method.
abbrev pub state_put : List Var → Woven → Woven
state_put vars woven = record { files = woven.files ++ state_file vars ∷ []; methods = woven.methods ++ [] ∷ []; origins = woven.origins ++ [] ∷ [] }

abbrev pub woven : Program → Plan → List Var → Fitting Woven
woven program plan vars = classes_woven plan (length program.classes) nothing_woven program.classes >>= λ made. Ok (state_put vars made)
