-- What is said of a woven class makes it the class with its blocks.
use Rattle.std.proofs.Common.{◌≡◌, ℕ, ◌+◌, Bool, true, false, List, [], ◌∷◌, ◌++◌, Option, map, refl, ap, ◌∙◌}
use Rattle.std.specs.Prelude.{if◌then◌else◌, ⊤}
use Rattle.std.specs.List.{AllByRecursion}
use Rattle.class_codec.specs.declared.tree.ClassFile.{ClassFile}
use Rattle.class_codec.specs.declared.tree.Const.{Const}
use Rattle.class_codec.specs.Fits.{IsEncodable}
use Rattle.bytecode_model.specs.declared.program.LinkedClass.{LinkedClass}
use Rattle.bytecode_model.specs.declared.program.Method.{Method}
use Rattle.offset_patch.specs.declared.block.Block.{Block}
use Rattle.offset_patch.specs.Plan.{Plan}
use Rattle.offset_patch.specs.Splicing.{operands_needed, spliced}
use Rattle.offset_patch.specs.Splicing.{handlers_with, parts_named}
use Rattle.class_weaving.specs.Outcome.{Each, IsWovenMethod, IsWovenClass}
use Rattle.class_weaving.specs.Woven.{is_woven, sites_of, locals_of}
use Rattle.woven_linking.specs.Program.{MethodHasRoom, HaveRoom}
use Rattle.woven_linking.proofs.ByPlan.{with_blocks, method_with, class_with}

-- ---- methods

module _ (plan : Plan) (state : ℕ) (pool : List Const) where
  method_is : (old new : Method) → IsWovenMethod plan state pool old new → new ≡ method_with plan state pool old
  method_is old new w = by (is_woven plan old) w.max_stack w.max_locals w.insns w.refs w.handlers
    where
      sites : List (Option Block)
      sites = sites_of plan old.max_locals old

      by : (b : Bool) → new.max_stack ≡ (if b then old.max_stack + operands_needed else old.max_stack) → new.max_locals ≡ (if b then old.max_locals + locals_of plan old else old.max_locals)
          → new.insns ≡ (if b then spliced pool old.insns sites else old.insns) → new.refs ≡ (if b then parts_named state old.refs sites else old.refs)
          → new.handlers ≡ (if b then handlers_with sites old.handlers else old.handlers) → new ≡ (if b then with_blocks plan state pool old sites else old)
      by true stack locals insns refs handlers = rw (← w.flags, ← w.name, ← w.desc, ← stack, ← locals, ← insns, ← refs, ← handlers) refl
      by false stack locals insns refs handlers = rw (← w.flags, ← w.name, ← w.desc, ← stack, ← locals, ← insns, ← refs, ← handlers) refl

  methods_are : (olds news : List Method) → Each (IsWovenMethod plan state pool) olds news → news ≡ map (method_with plan state pool) olds
  methods_are [] [] w = refl
  methods_are [] (new ∷ news) w = absurd w
  methods_are (old ∷ olds) [] w = absurd w
  methods_are (old ∷ olds) (new ∷ news) w =
      ap (λ (m : Method). m ∷ news) (method_is old new w.0) ∙ ap (λ (ms : List Method). method_with plan state pool old ∷ ms) (methods_are olds news w.1)

-- ---- classes

pub class_is : (plan : Plan) (state : ℕ) (old new : LinkedClass) → IsWovenClass plan state old new → new ≡ class_with plan state old new.file
class_is plan state old new w =
    let made : List ℕ → List ℕ → List Method → LinkedClass = λ name parent methods. record { name = name; parent = parent; file = new.file; methods = methods } in
    ap (λ (name : List ℕ). made name new.parent new.methods) w.name ∙ ap (λ (parent : List ℕ). made old.name parent new.methods) w.parent
    ∙ ap (made old.name old.parent) (methods_are plan state new.file.pool old.methods new.methods w.methods)

-- ---- room

-- Each method has room in the file of its class.
abbrev pub HaveMethodsRoom : Plan → List LinkedClass → List ClassFile → Type 0
HaveMethodsRoom plan [] files = ⊤
HaveMethodsRoom plan (class ∷ classes) [] = ⊤
HaveMethodsRoom plan (class ∷ classes) (file ∷ files) = AllByRecursion (MethodHasRoom plan file.pool) class.methods × HaveMethodsRoom plan classes files

pub with_state : (plan : Plan) (classes : List LinkedClass) (news : List ClassFile) (state : ClassFile)
    → Each (λ (class : LinkedClass) (file : ClassFile). AllByRecursion (MethodHasRoom plan file.pool) class.methods) classes news → HaveMethodsRoom plan classes (news ++ state ∷ [])
with_state plan [] news state h = tt
with_state plan (class ∷ classes) [] state h = absurd h
with_state plan (class ∷ classes) (file ∷ news) state h = (h.0, with_state plan classes news state h.1)

pub have_room : (plan : Plan) (classes : List LinkedClass) (files : List ClassFile) → HaveMethodsRoom plan classes files → AllByRecursion IsEncodable files → HaveRoom plan classes files
have_room plan [] files h fits = tt
have_room plan (class ∷ classes) [] h fits = tt
have_room plan (class ∷ classes) (file ∷ files) h fits = (record { few = fits.0.pool.count; methods = h.0 }, have_room plan classes files h.1 fits.1)
