-- The sizes of what a program is woven to, in the order in which they are told: the classes in theirs, and the methods of
-- each in theirs. Nothing is woven for them. (docs/BLOCKS.md)
use Rattle.std.specs.Prelude.{◌≡◌, ℕ, ◌+◌, if◌then◌else◌, List, [], ◌∷◌, ◌++◌, map, slice_get, Option, Some, None}
use Rattle.class_codec.specs.declared.tree.Code.{Code}
use Rattle.class_codec.specs.declared.tree.Const.{Const}
use Rattle.class_codec.specs.declared.tree.Member.{Member}
use Rattle.bytecode_model.specs.declared.program.LinkedClass.{LinkedClass}
use Rattle.bytecode_model.specs.declared.program.Method.{Method}
use Rattle.bytecode_model.specs.declared.program.Program.{Program}
use Rattle.bytecode_model.specs.Sound.{IsSound}
use Rattle.offset_patch.specs.declared.fault.SpliceFault.{SpliceFault}
use Rattle.offset_patch.specs.Fault.{fault_of}
use Rattle.offset_patch.specs.Plan.{Plan, IsGood}
use Rattle.conspec_tree.specs.declared.types.Var.{Var}
use Rattle.offset_patch.specs.Sizes.{method_sizes, first_unfit}
use Rattle.offset_patch.specs.Splicing.{grown}
use Rattle.class_weaving.specs.Woven.{is_woven, sites_of, locals_of, first_code, woven}

-- those of a code; one without a block stays as it is
abbrev pub code_sizes : Plan → List ℕ → ℕ → List Const → Method → Code → List SpliceFault
code_sizes plan class number pool method code =
    if is_woven plan method then method_sizes class number pool method code (locals_of plan method) (sites_of plan code.max_locals method) else []

-- those of the method of this number, where there is one and its member has code
abbrev pub body_sizes : Plan → List ℕ → ℕ → List Const → Option Method → Option Code → List SpliceFault
body_sizes plan class number pool (Some method) (Some code) = code_sizes plan class number pool method code
body_sizes plan class number pool (Some method) None = []
body_sizes plan class number pool None code = []

-- the constants with those that its blocks name
abbrev pub pool_after : Plan → List Const → Option Method → Option Code → List Const
pool_after plan pool (Some method) (Some code) = if is_woven plan method then grown pool (sites_of plan code.max_locals method) else pool
pool_after plan pool (Some method) None = pool
pool_after plan pool None code = pool

-- those of the members from this number on
abbrev pub members_sizes : Plan → LinkedClass → ℕ → List Const → List Member → List SpliceFault
members_sizes plan class number pool [] = []
members_sizes plan class number pool (member ∷ members) =
    body_sizes plan class.name number pool (slice_get class.methods number) (first_code member.attrs)
    ++ members_sizes plan class (number + 1) (pool_after plan pool (slice_get class.methods number) (first_code member.attrs)) members

abbrev pub classes_sizes : Plan → List LinkedClass → List SpliceFault
classes_sizes plan [] = []
classes_sizes plan (class ∷ classes) = members_sizes plan class 0 class.file.pool class.file.methods ++ classes_sizes plan classes

abbrev pub program_sizes : Program → Plan → List SpliceFault
program_sizes program plan = classes_sizes plan program.classes

-- Weaving by a good plan is a fault exactly where a size does not fit, and then it is the first of these.
abbrev pub SizesDecide : Type 0
SizesDecide =
    (program : Program) (plan : Plan) (vars : List Var) → IsSound program → IsGood (map (λ (v : Var). v.is_bool) vars) plan
    → fault_of (woven program plan vars) ≡ first_unfit (program_sizes program plan)
