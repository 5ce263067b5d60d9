-- Among the given classes each way up ends: one step more finds no field and no method.
use Rattle.std.proofs.Common.{◌≡◌, ℕ, zero, suc, Bool, true, false, List, [], ◌∷◌, ◌++◌, drop, Option, Some, None, refl, sym, ap, subst, ◌∙◌}
use Rattle.std.specs.Prelude.{bytes_eq, find, map, if◌then◌else◌, slice_get, option_map, option_and_then}
use Rattle.std.specs.List.{AllByRecursion}
use Rattle.std.specs.Option.{option_map_or, option_or}
use Rattle.api_listing.specs.declared.types.ListedClass.{ListedClass}
use Rattle.api_listing.specs.Nearest.{class_named, upwards}
use Rattle.bytecode_model.specs.declared.program.LinkedClass.{LinkedClass}
use Rattle.bytecode_model.specs.declared.program.Program.{Program}
use Rattle.bytecode_model.specs.Files.{unlinked}
use Rattle.bytecode_model.specs.Heads.{head_of, heads_of}
use Rattle.bytecode_model.specs.SearchOrder.{Name}
use Rattle.bytecode_model.proofs.Placing.{find_at}
use Rattle.guest_heap.specs.declared.value.Value.{Value}
use Rattle.guest_model.specs.Finding.{Given, declared_in, declared_up, given_index}
use Rattle.guest_model.specs.Layout.{class_given, fields_up, own_fields}
use Rattle.guest_erasing.specs.Adding.{IsNamedClass}
use Rattle.guest_erasing.proofs.Upwards.{found_fits}

-- ---- the way up

-- After n classes there is none above.
abbrev pub Ends : ℕ → List ListedClass → Name → Type 0
Ends n heads name = upwards (suc n) heads name ≡ upwards n heads name

module _ (heads : List ListedClass) (name : Name) (c : ListedClass) (there : class_named heads name ≡ Some c) where
  one_up : (n : ℕ) → upwards (suc n) heads name ≡ c ∷ upwards n heads c.parent
  one_up n = ap (λ (o : Option ListedClass). option_map_or (λ (x : ListedClass). x ∷ upwards n heads x.parent) o []) there

  pub ends_above : (n : ℕ) → Ends (suc n) heads name → Ends n heads c.parent
  ends_above n ends = ap (drop 1) (sym (one_up (suc n)) ∙ ends ∙ one_up n)

  pub ends_later : Ends 0 heads name → ⊥
  ends_later ends =
      let no : ◌≡◌ {A = List ListedClass} (c ∷ []) [] = sym (one_up 0) ∙ ends in
      absurd cc

-- ---- the given classes and what their files say of them

abbrev is_named : Name → LinkedClass → Bool
is_named name c = bytes_eq c.name name

abbrev head : LinkedClass → ListedClass
head c = head_of c.file

abbrev heads_given : List LinkedClass → List ListedClass
heads_given classes = heads_of (map (λ (c : LinkedClass). c.file) classes)

-- the class of the name, as its file says
head_named : (classes : List LinkedClass) → AllByRecursion IsNamedClass classes → (name : Name)
    → class_named (heads_given classes) name ≡ option_map head (find (is_named name) classes)
head_named [] given name = refl
head_named (c ∷ classes) given name =
    ap (λ (own : Name). if bytes_eq own name then Some (head c) else class_named (heads_given classes) name) (sym given.0.name)
    ∙ by (is_named name c) (head_named classes given.1 name) where
      by : (b : Bool) → class_named (heads_given classes) name ≡ option_map head (find (is_named name) classes)
          → (if b then Some (head c) else class_named (heads_given classes) name)
          ≡ option_map head (if b then Some c else find (is_named name) classes)
      by true later = refl
      by false later = later

-- ---- what is found from a class on upwards

-- the fields from a class on
abbrev pub fields_from : Program → ℕ → LinkedClass → List Value
fields_from p n c = fields_up n p c.parent ++ own_fields c.file

-- the method from a class on, which has this index
abbrev pub declared_from : Program → Name → Name → ℕ → ℕ → LinkedClass → Option Given
declared_from p name desc n index c =
    option_or (option_map (λ method. (index, method)) (declared_in name desc c)) (declared_up n p name desc c.parent)

-- that from the class at a place on
abbrev pub declared_at : Program → Name → Name → ℕ → Option ℕ → Option Given
declared_at p name desc n place =
    option_and_then (λ index. option_and_then (declared_from p name desc n index) (slice_get p.classes index)) place

module _ (p : Program) (given : AllByRecursion IsNamedClass p.classes) where
  abbrev heads : List ListedClass
  heads = heads_of (unlinked p)

  -- a given class of the name, from which it goes on up
  head_is : (name : Name) (c : LinkedClass) → class_given p name ≡ Some c → class_named heads name ≡ Some (head c)
  head_is name c e = head_named p.classes given name ∙ ap (option_map head) e

  above_ends : (n : ℕ) (name : Name) (c : LinkedClass) → class_given p name ≡ Some c → Ends (suc n) heads name → Ends n heads c.parent
  above_ends n name c e ends =
      let says : IsNamedClass c = found_fits (is_named name) IsNamedClass p.classes c given e in
      subst (λ (parent : Name). Ends n heads parent) (sym says.parent) (ends_above heads name (head c) (head_is name c e) n ends)

  -- ---- fields

  abbrev FieldsEnd : ℕ → Name → Type 0
  FieldsEnd n name = fields_up (suc n) p name ≡ fields_up n p name

  pub fields_end : (n : ℕ) (name : Name) → Ends n heads name → FieldsEnd n name
  fields_end zero name ends = by (class_given p name) refl where
    by : (o : Option LinkedClass) → class_given p name ≡ o → option_map_or (fields_from p 0) o [] ≡ []
    by None e = refl
    by (Some c) e = absurd (ends_later heads name (head c) (head_is name c e) ends)
  fields_end (suc n) name ends = by (class_given p name) refl (λ parent. fields_end n parent) where
    by : (o : Option LinkedClass) → class_given p name ≡ o → ((parent : Name) → Ends n heads parent → FieldsEnd n parent)
        → option_map_or (fields_from p (suc n)) o [] ≡ option_map_or (fields_from p n) o []
    by None e later = refl
    by (Some c) e later = ap (λ (vs : List Value). vs ++ own_fields c.file) (later c.parent (above_ends n name c e ends))

  -- ---- methods

  given_at : (class : Name) (index : ℕ) (c : LinkedClass) → given_index p class ≡ Some index → slice_get p.classes index ≡ Some c
      → class_given p class ≡ Some c
  given_at class index c e f = find_at (is_named class) p.classes ∙ ap (option_and_then (slice_get p.classes)) e ∙ f

  module _ (name desc : Name) where
    abbrev DeclaredEnds : ℕ → Name → Type 0
    DeclaredEnds n class = declared_up (suc n) p name desc class ≡ declared_up n p name desc class

    pub declared_ends : (n : ℕ) (class : Name) → Ends n heads class → DeclaredEnds n class
    declared_ends zero class ends = by (given_index p class) refl where
      at : (index : ℕ) (o : Option LinkedClass) → given_index p class ≡ Some index → slice_get p.classes index ≡ o
          → option_and_then (declared_from p name desc 0 index) o ≡ None
      at index None e f = refl
      at index (Some c) e f = absurd (ends_later heads class (head c) (head_is class c (given_at class index c e f)) ends)

      by : (o : Option ℕ) → given_index p class ≡ o → declared_at p name desc 0 o ≡ None
      by None e = refl
      by (Some index) e = at index (slice_get p.classes index) e refl
    declared_ends (suc n) class ends = by (given_index p class) refl (λ parent. declared_ends n parent) where
      at : (index : ℕ) (o : Option LinkedClass) → given_index p class ≡ Some index → slice_get p.classes index ≡ o
          → ((parent : Name) → Ends n heads parent → DeclaredEnds n parent)
          → option_and_then (declared_from p name desc (suc n) index) o ≡ option_and_then (declared_from p name desc n index) o
      at index None e f later = refl
      at index (Some c) e f later =
          ap (λ (o : Option Given). option_or (option_map (λ method. (index, method)) (declared_in name desc c)) o)
          (later c.parent (above_ends n class c (given_at class index c e f) ends))

      by : (o : Option ℕ) → given_index p class ≡ o → ((parent : Name) → Ends n heads parent → DeclaredEnds n parent)
          → declared_at p name desc (suc n) o ≡ declared_at p name desc n o
      by None e later = refl
      by (Some index) e later = at index (slice_get p.classes index) e refl later
