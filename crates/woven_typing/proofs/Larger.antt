-- In a program with one class more each type may stand where it might.
use Rattle.std.proofs.Common.{◌≡◌, ℕ, zero, suc, ◌≤◌, Bool, true, false, cond, List, [], ◌∷◌, ◌++◌, length, map, Option, Some, None, refl, sym, ap, subst, ◌∙◌, arith, length-append, append_assoc}
use Rattle.std.specs.Prelude.{◌&&◌, ◌==◌, not, bytes_eq}
use Rattle.std.specs.List.{list_any}
use Rattle.std.specs.Option.{option_map_or}
use Rattle.std.proofs.lemmas.Bool.{eq-eqb, eqb-true}
use Rattle.std.proofs.lemmas.List.{map-append}
use Rattle.api_listing.specs.declared.types.ListedClass.{ListedClass}
use Rattle.api_listing.specs.BuiltIn.{object}
use Rattle.api_listing.specs.Nearest.{class_named, upwards}
use Rattle.bytecode_model.specs.declared.program.LinkedClass.{LinkedClass}
use Rattle.bytecode_model.specs.declared.program.Program.{Program}
use Rattle.bytecode_model.specs.Classes.{classes_of, is_below, is_interface}
use Rattle.bytecode_model.specs.Heads.{head_of}
use Rattle.cert_format.specs.declared.typing.VType.{VType}
use Rattle.cert_format.specs.declared.typing.VType.TheVariants as types
use Rattle.conspec_tree.specs.declared.types.Var.{Var}
use Rattle.offset_patch.specs.Plan.{Plan}
use Rattle.bytecode_model.specs.Arrays.{is_array}
use Rattle.bytecode_model.specs.Assigning.{class_fits, named, reference_of, leaf_fits, component_fits, array_fits, name_fits, assignable}
use Rattle.class_weaving.specs.Outcome.{Each, IsWovenClass, IsWoven}
use Rattle.woven_typing.specs.Renaming.{renamed}
use Rattle.woven_typing.proofs.Kept.{or_kept, and_kept}

-- ---- lists of classes

found : (b : Bool) (x y : ListedClass) (rest : Option ListedClass) → cond b (Some x) rest ≡ Some y → (other : Option ListedClass) → (rest ≡ Some y → other ≡ Some y)
    → cond b (Some x) other ≡ Some y
found true x y rest e other later = e
found false x y rest e other later = later e

named_longer : (classes more : List ListedClass) (name : List ℕ) (c : ListedClass) → class_named classes name ≡ Some c → class_named (classes ++ more) name ≡ Some c
named_longer [] more name c e = absurd cc
named_longer (x ∷ classes) more name c e = found (bytes_eq x.name name) x c _ e _ (named_longer classes more name c)

module _ (classes more : List ListedClass) (test : ListedClass → Bool) where
  abbrev up : ℕ → List ListedClass → List ℕ → Bool
  up n cs name = list_any test (upwards n cs name)

  -- A class that is met upwards is met upwards in more classes.
  met_longer : (n m : ℕ) (name : List ℕ) → n ≤ m → up n classes name ≡ true → up m (classes ++ more) name ≡ true
  met_longer zero m name le e = absurd cc
  met_longer (suc n) zero name le e = absurd (omega arith)
  met_longer (suc n) (suc m) name le e = by (class_named classes name) refl e (λ c. met_longer n m c.parent (omega (arith, le)))
    where
      by : (o : Option ListedClass) → class_named classes name ≡ o → list_any test (option_map_or (λ c. c ∷ upwards n classes c.parent) o []) ≡ true
          → ((c : ListedClass) → up n classes c.parent ≡ true → up m (classes ++ more) c.parent ≡ true) → up (suc m) (classes ++ more) name ≡ true
      by None is e later = absurd cc
      by (Some c) is e later =
          let there : class_named (classes ++ more) name ≡ Some c = named_longer classes more name c is in
          rw there (or_kept (test c) (up n classes c.parent) _ _ (λ t. t) (later c) e)

-- ---- programs

-- The classes of the one program stand first among those of the other.
pub record IsLarger (old new : Program) : Type 0 where
  pub more : List ListedClass
  pub classes : classes_of new ≡ classes_of old ++ more

module _ (old new : Program) (larger : IsLarger old new) where
  count : length (classes_of old) ≤ length (classes_of new)
  count = omega (arith, ap length larger.classes, length-append (classes_of old) larger.more)

  pub below_kept : (class above : List ℕ) → is_below old class above ≡ true → is_below new class above ≡ true
  below_kept class above e =
      subst (λ (cs : List ListedClass). list_any (λ (c : ListedClass). bytes_eq c.name above) (upwards (length (classes_of new)) cs class) ≡ true) (sym larger.classes)
      (met_longer (classes_of old) larger.more (λ (c : ListedClass). bytes_eq c.name above) (length (classes_of old)) (length (classes_of new)) class count e)

  interface_of : (o : Option ListedClass) (name : List ℕ) → class_named (classes_of old) name ≡ o → option_map_or (λ (c : ListedClass). c.is_interface) o false ≡ true
      → is_interface new name ≡ true
  interface_of None name is e = absurd cc
  interface_of (Some c) name is e =
      let there : class_named (classes_of new) name ≡ Some c =
      subst (λ (cs : List ListedClass). class_named cs name ≡ Some c) (sym larger.classes) (named_longer (classes_of old) larger.more name c is) in
      rw there e

  interface_kept : (name : List ℕ) → is_interface old name ≡ true → is_interface new name ≡ true
  interface_kept name e = interface_of (class_named (classes_of old) name) name refl e

  -- ---- names

  class_kept : (from to : List ℕ) → class_fits old from to ≡ true → class_fits new from to ≡ true
  class_kept from to =
      or_kept (bytes_eq from to) _ _ _ (λ e. e)
      (or_kept (bytes_eq to object) _ _ _ (λ e. e)
      (or_kept (is_interface old to) _ _ _ (interface_kept to)
      (and_kept (not (is_array from)) (is_below old from to) _ _ (λ e. e) (below_kept from to))))

  named_kept : (below above : Option (List ℕ)) → option_map_or (λ a. option_map_or (λ b. class_fits old b a) below false) above false ≡ true
      → option_map_or (λ a. option_map_or (λ b. class_fits new b a) below false) above false ≡ true
  named_kept None None e = absurd cc
  named_kept (Some b) None e = absurd cc
  named_kept None (Some a) e = absurd cc
  named_kept (Some b) (Some a) e = class_kept b a e

  leaf_kept : (from to : List ℕ) → leaf_fits old from to ≡ true → leaf_fits new from to ≡ true
  leaf_kept from to = or_kept (bytes_eq from to) _ _ _ (λ e. e) (named_kept (reference_of from) (named to))

  choice_kept : (b x y v w : Bool) → (x ≡ true → v ≡ true) → (y ≡ true → w ≡ true) → cond b x y ≡ true → cond b v w ≡ true
  choice_kept true x y v w f g e = f e
  choice_kept false x y v w f g e = g e

  component_kept : (from to : List ℕ) → component_fits old from to ≡ true → component_fits new from to ≡ true
  component_kept [] to e = leaf_kept [] to e
  component_kept (c ∷ from) [] e = leaf_kept (c ∷ from) [] e
  component_kept (c ∷ from) (d ∷ to) e =
      choice_kept ((c == 91) && (d == 91)) (component_fits old from to) (leaf_fits old (c ∷ from) (d ∷ to)) _ _ (component_kept from to) (leaf_kept (c ∷ from) (d ∷ to)) e

  array_kept : (from to : List ℕ) → array_fits old from to ≡ true → array_fits new from to ≡ true
  array_kept [] to e = absurd cc
  array_kept (c ∷ from) [] e = absurd cc
  array_kept (c ∷ from) (d ∷ to) e =
      and_kept (c == 91) ((d == 91) && component_fits old from to) _ _ (λ e. e) (and_kept (d == 91) (component_fits old from to) _ _ (λ e. e) (component_kept from to)) e

  name_kept : (from to : List ℕ) → name_fits old from to ≡ true → name_fits new from to ≡ true
  name_kept from to = or_kept (class_fits old from to) (array_fits old from to) _ _ (class_kept from to) (array_kept from to)

  -- ---- types

  module _ (moved : ℕ → ℕ) where
    index_kept : (i j : ℕ) → (i == j) ≡ true → (moved i == moved j) ≡ true
    index_kept i j e =
        let same : i ≡ j = eqb-true i j e in
        rw same (eq-eqb (moved j) (moved j) refl)

    pub assigns_kept : (t u : VType) → assignable old t u ≡ true → assignable new (renamed moved t) (renamed moved u) ≡ true
    assigns_kept types.Top types.Top e = refl
    assigns_kept types.Int types.Top e = refl
    assigns_kept types.Null types.Top e = refl
    assigns_kept (types.Ref from) types.Top e = refl
    assigns_kept types.UninitThis types.Top e = refl
    assigns_kept (types.Uninit i) types.Top e = refl
    assigns_kept types.Int types.Int e = refl
    assigns_kept types.Null types.Null e = refl
    assigns_kept types.Null (types.Ref to) e = refl
    assigns_kept (types.Ref from) (types.Ref to) e = name_kept from to e
    assigns_kept types.UninitThis types.UninitThis e = refl
    assigns_kept (types.Uninit i) (types.Uninit j) e = index_kept i j e
    assigns_kept types.Top types.Int e = absurd cc
    assigns_kept types.Top types.Null e = absurd cc
    assigns_kept types.Top (types.Ref to) e = absurd cc
    assigns_kept types.Top types.UninitThis e = absurd cc
    assigns_kept types.Top (types.Uninit j) e = absurd cc
    assigns_kept types.Int types.Null e = absurd cc
    assigns_kept types.Int (types.Ref to) e = absurd cc
    assigns_kept types.Int types.UninitThis e = absurd cc
    assigns_kept types.Int (types.Uninit j) e = absurd cc
    assigns_kept types.Null types.Int e = absurd cc
    assigns_kept types.Null types.UninitThis e = absurd cc
    assigns_kept types.Null (types.Uninit j) e = absurd cc
    assigns_kept (types.Ref from) types.Int e = absurd cc
    assigns_kept (types.Ref from) types.Null e = absurd cc
    assigns_kept (types.Ref from) types.UninitThis e = absurd cc
    assigns_kept (types.Ref from) (types.Uninit j) e = absurd cc
    assigns_kept types.UninitThis types.Int e = absurd cc
    assigns_kept types.UninitThis types.Null e = absurd cc
    assigns_kept types.UninitThis (types.Ref to) e = absurd cc
    assigns_kept types.UninitThis (types.Uninit j) e = absurd cc
    assigns_kept (types.Uninit i) types.Int e = absurd cc
    assigns_kept (types.Uninit i) types.Null e = absurd cc
    assigns_kept (types.Uninit i) (types.Ref to) e = absurd cc
    assigns_kept (types.Uninit i) types.UninitThis e = absurd cc

-- ---- woven programs

same_heads : (plan : Plan) (state : ℕ) (old own : List LinkedClass) → Each (IsWovenClass plan state) old own
    → map (λ (c : LinkedClass). head_of c.file) own ≡ map (λ (c : LinkedClass). head_of c.file) old
same_heads plan state [] [] each = refl
same_heads plan state [] (y ∷ own) each = absurd each
same_heads plan state (x ∷ old) [] each = absurd each
same_heads plan state (x ∷ old) (y ∷ own) each = rw (each.0.head, same_heads plan state old own each.1) refl

pub woven_larger : (old new : Program) (plan : Plan) (vars : List Var) → IsWoven old plan vars new → IsLarger old new
woven_larger old new plan vars woven =
    let heads : List LinkedClass → List ListedClass = λ classes. map (λ (c : LinkedClass). head_of c.file) classes in
    record {
      more = head_of woven.state.file ∷ [];
      classes =
          ap (λ (cs : List ListedClass). cs ++ heads new.classes) (ap (λ l. l.classes) woven.listing)
          ∙ ap (λ (cs : List LinkedClass). old.listing.classes ++ heads cs) woven.are
          ∙ ap (λ (hs : List ListedClass). old.listing.classes ++ hs)
          (map-append (λ (c : LinkedClass). head_of c.file) woven.own (woven.state ∷ []) ∙ ap (λ (hs : List ListedClass). hs ++ head_of woven.state.file ∷ []) (same_heads plan (length old.classes) old.classes woven.own woven.classes))
          ∙ sym (append_assoc old.listing.classes (heads old.classes) (head_of woven.state.file ∷ []));
    }
