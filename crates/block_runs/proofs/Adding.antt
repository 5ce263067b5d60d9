-- What is woven has conspec/State after the classes of the client, each of which is laid out.
use Rattle.std.proofs.Common.{◌≡◌, ◌∙◌, ℕ, List, [], ◌∷◌, ◌++◌, length, map, Bool, true, false, cond, Option, refl, ap}
use Rattle.std.specs.Prelude.{filter, take}
use Rattle.std.specs.List.{AllByRecursion}
use Rattle.std.specs.Option.{option_map_or}
use Rattle.api_listing.specs.BuiltIn.{object}
use Rattle.class_codec.specs.declared.tree.Member.{Member}
use Rattle.class_codec.specs.declared.pool.ConstKind.TheVariants as kinds
use Rattle.class_codec.specs.Fits.{FitsMember}
use Rattle.class_codec.specs.Pool.{class_name_at, names, utf8_at}
use Rattle.conspec_tree.specs.declared.types.Var.{Var}
use Rattle.class_codec.specs.declared.tree.ClassFile.{ClassFile}
use Rattle.class_codec.specs.declared.tree.Const.{Const}
use Rattle.bytecode_model.specs.declared.program.LinkedClass.{LinkedClass}
use Rattle.bytecode_model.specs.declared.program.Method.{Method}
use Rattle.bytecode_model.specs.Heads.{desc_of, head_of}
use Rattle.bytecode_model.specs.Sound.{IsSoundClass, IsSoundMethod}
use Rattle.offset_patch.specs.Plan.{IsGood, Plan}
use Rattle.offset_patch.proofs.PoolFits.{utf8_on}
use Rattle.guest_model.specs.Layout.{first_value, is_in_objects}
use Rattle.class_weaving.specs.Outcome as woven
use Rattle.class_weaving.specs.Outcome.{Each, IsWovenClass, IsWovenMethod}
use Rattle.guest_erasing.specs.Adding.{ClassIsLaid, IsState}
use Rattle.guest_erasing.specs.Laid.{IsLaid}
use Rattle.guest_erasing.specs.Mirrors.{AreAlike}
use Rattle.class_weaving.specs.Woven.{LocalsFit, plan_sites}
use Rattle.block_runs.specs.Weaves.{WovenAddsState}
use Rattle.block_runs.proofs.Laying.{laid}

module _ (plan : Plan) (kinds : List Bool) (good : IsGood kinds plan) (state : ℕ) where
  methods_laid : (pool : List Const) (olds news : List Method) → AllByRecursion IsSoundMethod olds → AllByRecursion (LocalsFit plan) olds
      → Each (IsWovenMethod plan state pool) olds news
      → AreAlike (λ (m n : Method). IsLaid (plan_sites plan m) m n) olds news
  methods_laid pool [] [] ok room woven = tt
  methods_laid pool [] (new ∷ news) ok room woven = absurd woven
  methods_laid pool (old ∷ olds) [] ok room woven = absurd woven
  methods_laid pool (old ∷ olds) (new ∷ news) ok room woven =
      (laid plan kinds good state pool old new ok.0 room.0 woven.0, methods_laid pool olds news ok.1 room.1 woven.1)

-- ---- the fields of a class

-- a descriptor that the old constants have
pub desc_same : (old more : List Const) (m : Member) → names kinds.Utf8 old m.desc ≡ true → desc_of (old ++ more) m ≡ desc_of old m
desc_same old more m is = ap (λ (o : Option (List ℕ)). option_map_or (λ (text : List ℕ). text) o []) (utf8_on old more m.desc is)

all_descs : (old more : List Const) (fields : List Member) → AllByRecursion (FitsMember old false) fields
    → map (λ (m : Member). first_value (desc_of (old ++ more) m)) (filter is_in_objects fields) ≡ map
    (λ (m : Member). first_value (desc_of old m)) (filter is_in_objects fields)
all_descs old more [] fit = refl
all_descs old more (m ∷ fields) fit = by (is_in_objects m) (all_descs old more fields fit.1)
  where
    by : (b : Bool)
        → map (λ (x : Member). first_value (desc_of (old ++ more) x)) (filter is_in_objects fields) ≡ map
        (λ (x : Member). first_value (desc_of old x)) (filter is_in_objects fields)
        → map (λ (x : Member). first_value (desc_of (old ++ more) x))
        (cond b (m ∷ filter is_in_objects fields) (filter is_in_objects fields))
        ≡ map (λ (x : Member). first_value (desc_of old x)) (cond b (m ∷ filter is_in_objects fields) (filter is_in_objects fields))
    by false later = later
    by true later = rw (desc_same old more m fit.0.desc.named, later) refl

-- ---- classes

module _ (plan : Plan) (kinds_of : List Bool) (good : IsGood kinds_of plan) (state : ℕ) where
  class_laid : (old new : LinkedClass) → IsSoundClass old → AllByRecursion (LocalsFit plan) old.methods → IsWovenClass plan state old new
      → ClassIsLaid (plan_sites plan) old new
  class_laid old new ok room w =
      let fields : new.file.fields ≡ old.file.fields = ap (λ (f : ClassFile). f.fields) w.file in
      record {
        name = w.name;
        parent = w.parent;
        head = w.head;
        fields =
            ap (λ (pool : List Const). map (λ (m : Member). first_value (desc_of pool m)) (filter is_in_objects new.file.fields)) w.pool
            ∙ ap (λ (fs : List Member). map (λ (m : Member). first_value (desc_of (old.file.pool ++ w.added) m))
            (filter is_in_objects fs)) fields
            ∙ all_descs old.file.pool w.added old.file.fields ok.fits.fields.each;
        places = λ n. ap (λ (fs : List Member). length (filter is_in_objects (take n fs))) fields;
        methods = methods_laid plan kinds_of good state new.file.pool old.methods new.methods ok.methods room w.methods;
      }

  classes_laid : (olds news : List LinkedClass) → AllByRecursion IsSoundClass olds
      → AllByRecursion (λ (c : LinkedClass). AllByRecursion (LocalsFit plan) c.methods) olds
      → Each (IsWovenClass plan state) olds news → AreAlike (ClassIsLaid (plan_sites plan)) olds news
  classes_laid [] [] ok room woven = tt
  classes_laid [] (new ∷ news) ok room woven = absurd woven
  classes_laid (old ∷ olds) [] ok room woven = absurd woven
  classes_laid (old ∷ olds) (new ∷ news) ok room woven =
      (class_laid old new ok.0 room.0 woven.0, classes_laid olds news ok.1 room.1 woven.1)

-- ---- conspec/State

is_state : (vars : List Var) (class : LinkedClass) → woven.IsState vars class → class.parent ≡ object → IsState class
unfolding class_name_at utf8_at
is_state vars class is parent = record {
  name = is.name;
  parent = parent;
  head_name = ap (λ (f : ClassFile). (head_of f).name) is.file;
  head_parent = ap (λ (f : ClassFile). (head_of f).parent) is.file;
  head_interfaces = ap (λ (f : ClassFile). (head_of f).interfaces) is.file;
  head_class = ap (λ (f : ClassFile). (head_of f).is_interface) is.file;
  no_methods = is.methods;
}

-- ---- the program

pub adds : WovenAddsState
adds old new plan kinds_of vars ok good room w parent = record {
  others = w.own;
  state = w.state;
  classes = w.are;
  alike = classes_laid plan kinds_of good (length old.classes) old.classes w.own ok.classes room w.classes;
  is_state = is_state vars w.state w.last parent;
  listing = w.listing;
  literals = w.literals;
  main_class = w.main_class;
  main_method = w.main_method;
}
