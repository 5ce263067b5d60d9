-- The fields of objects: those of a class above stand first, and each has its place; a new object fits.
use Rattle.std.proofs.Common.{◌≡◌, ℕ, zero, suc, ◌+◌, ◌≤◌, Bool, true, false, cond, List, [], ◌∷◌, ◌++◌, ◌⊎◌, length, map, take, append_assoc, Option, Some, None, refl, sym, ap, subst, ◌∙◌, inl, inr, arith}
use Rattle.std.specs.Prelude.{pos, bytes_eq, filter, slice_get, slice_set, replicate, option_map, not, ◌||◌, ◌==◌}
use Rattle.std.specs.List.{AllByRecursion, list_all}
use Rattle.std.specs.Option.{option_map_or}
use Rattle.std.proofs.lemmas.Bool.{cases_Bool, or_cases, and_parts, false≢true, not-true}
use Rattle.std.proofs.lemmas.List.{append-nil, length-map, length-append}
use Rattle.api_listing.specs.declared.types.ListedClass.{ListedClass}
use Rattle.api_listing.specs.Listing.{is_known}
use Rattle.api_listing.specs.Nearest.{class_named}
use Rattle.class_codec.specs.declared.tree.ClassFile.{ClassFile}
use Rattle.class_codec.specs.declared.tree.Member.{Member}
use Rattle.cert_format.specs.declared.typing.Typing.{Typing}
use Rattle.cert_format.specs.declared.typing.VType.{VType}
use Rattle.cert_format.specs.declared.typing.VType.TheVariants as types
use Rattle.insn_codec.specs.Following.{Paired}
use Rattle.bytecode_model.specs.declared.program.LinkedClass.{LinkedClass}
use Rattle.bytecode_model.specs.declared.program.Program.{Program}
use Rattle.bytecode_model.specs.Arrays.{is_array}
use Rattle.bytecode_model.specs.Classes.{classes_of, is_below}
use Rattle.bytecode_model.specs.Conditions.{is_above, is_super, runs_in_circle, stays_within}
use Rattle.bytecode_model.specs.Described.{type_described}
use Rattle.bytecode_model.specs.Heads.{desc_of, head_of, is_static}
use Rattle.bytecode_model.specs.SearchOrder.{Name}
use Rattle.bytecode_model.proofs.Upwards.{is_up, one_named, up_from, same_of}
use Rattle.guest_heap.specs.declared.object.Object.{Object}
use Rattle.guest_heap.specs.declared.value.Value.TheVariants as values
use Rattle.guest_model.specs.Layout.{class_given, fields_of, fields_up, first_value, is_in_objects, new_of, own_fields, place_of_field}
use Rattle.typed_runs.specs.Fitting.{ObjectFits, field_types, fits_made, own_types, types_up}
use Rattle.typed_runs.specs.Programs.{IsTypedProgram}
use Rattle.typed_runs.proofs.Above.{given_below, given_heads, heads_are}
use Rattle.typed_runs.proofs.Growing.{get_front}
use Rattle.typed_runs.proofs.Listed.{count, given_found, given_is, given_name, given_parent, given_unlisted, known_below, not_known_found, own_head, up_below}
use Rattle.typed_runs.proofs.Pairs.{paired_append}

-- ---- values before they are written

either_value : (letter array : Bool) (t u : VType) (program : Program) (heap : List Object)
    → fits_made program heap values.Null t ≡ true → fits_made program heap values.Null u ≡ true
    → fits_made program heap (cond (letter || array) values.Null (values.Int (pos 0))) (cond array t (cond letter u types.Int)) ≡ true
either_value true true t u program heap e f = e
either_value false true t u program heap e f = e
either_value true false t u program heap e f = f
either_value false false t u program heap e f = refl

pub first_value_fits : (program : Program) (heap : List Object) (desc : List ℕ) → fits_made program heap (first_value desc) (type_described desc) ≡ true
first_value_fits program heap [] = refl
first_value_fits program heap (b ∷ text) = either_value (b == 76) (b == 91) _ _ program heap refl refl

pub replicated : {A : Type 0} (P : A → Type 0) (n : ℕ) (x : A) → P x → AllByRecursion P (replicate n x)
replicated P zero x h = tt
replicated P (suc n) x h = (h, replicated P n x h)

own_fit : (program : Program) (heap : List Object) (file : ClassFile) (members : List Member)
    → Paired (fits_made program heap) (map (λ (m : Member). first_value (desc_of file.pool m)) members)
    (map (λ (m : Member). type_described (desc_of file.pool m)) members)
own_fit program heap file [] = tt
own_fit program heap file (m ∷ members) = (first_value_fits program heap (desc_of file.pool m), own_fit program heap file members)

up_fit_at : (program : Program) (heap : List Object) (n : ℕ) (o : Option LinkedClass)
    → ((parent : Name) → Paired (fits_made program heap) (fields_up n program parent) (types_up n program parent))
    → Paired (fits_made program heap) (option_map_or (λ (c : LinkedClass). fields_up n program c.parent ++ own_fields c.file) o [])
    (option_map_or (λ (c : LinkedClass). types_up n program c.parent ++ own_types c.file) o [])
up_fit_at program heap n None each = tt
up_fit_at program heap n (Some c) each =
    paired_append (fits_made program heap) (fields_up n program c.parent) (own_fields c.file) (types_up n program c.parent) (own_types c.file) (each c.parent)
    (own_fit program heap c.file (filter is_in_objects c.file.fields))

up_fit : (program : Program) (heap : List Object) (n : ℕ) (name : Name) → Paired (fits_made program heap) (fields_up n program name) (types_up n program name)
up_fit program heap zero name = tt
up_fit program heap (suc n) name = up_fit_at program heap n (class_given program name) (up_fit program heap n)

-- a new object fits
pub new_fits : (program : Program) (heap : List Object) (name : Name) → is_array name ≡ false → ObjectFits program heap (new_of program name)
new_fits program heap name apart = (apart, up_fit program heap (length program.classes) name)

up_length_at : (program : Program) (n : ℕ) (o : Option LinkedClass)
    → ((parent : Name) → length (fields_up n program parent) ≡ length (types_up n program parent))
    → length (option_map_or (λ (c : LinkedClass). fields_up n program c.parent ++ own_fields c.file) o [])
    ≡ length (option_map_or (λ (c : LinkedClass). types_up n program c.parent ++ own_types c.file) o [])
up_length_at program n None each = refl
up_length_at program n (Some c) each =
    let own : length (own_fields c.file) ≡ length (own_types c.file) = length-map (filter is_in_objects c.file.fields) _ ∙ sym (length-map (filter is_in_objects c.file.fields) _) in
    length-append (fields_up n program c.parent) (own_fields c.file) ∙ omega (arith, own, each c.parent) ∙ sym (length-append (types_up n program c.parent) (own_types c.file))

pub up_length : (program : Program) (n : ℕ) (name : Name) → length (fields_up n program name) ≡ length (types_up n program name)
up_length program zero name = refl
up_length program (suc n) name = up_length_at program n (class_given program name) (up_length program n)

-- ---- the place of a field

own_at : {A : Type 0} (p : Member → Bool) (f : Member → A) (members : List Member) (i : ℕ) (m : Member) → slice_get members i ≡ Some m → p m ≡ true
    → slice_get (map f (filter p members)) (length (filter p (take i members))) ≡ Some (f m)
own_at p f [] i m e is = absurd cc
own_at p f (x ∷ members) zero m e is =
    let one : x ≡ m = cc in
    let here : p x ≡ true = subst (λ (y : Member). p y ≡ true) (sym one) is in
    rw here (ap (λ (y : Member). Some (f y)) one)
own_at p f (x ∷ members) (suc i) m e is =
    let later = own_at p f members i m e is in
    elim (cases_Bool (p x)) [
      | inl here ↦ rw here later
      | inr fails ↦ rw fails later
    ]

pub get_after : {A : Type 0} (xs ys : List A) (i : ℕ) → slice_get (xs ++ ys) (length xs + i) ≡ slice_get ys i
get_after [] ys i = let same : 0 + i ≡ i = omega arith in rw same refl
get_after (x ∷ xs) ys i = let same : suc (length xs) + i ≡ suc (length xs + i) = omega arith in rw same (get_after xs ys i)

-- what is set in the place of a type that it fits
pub paired_set : {V T : Type 0} (of : V → T → Bool) (vs : List V) (ts : List T) (i : ℕ) (v : V) (t : T) → Paired of vs ts → slice_get ts i ≡ Some t → of v t ≡ true
    → Paired of (slice_set vs i v) ts
paired_set of [] [] i v t p e h = absurd cc
paired_set of [] (u ∷ ts) i v t p e h = absurd p
paired_set of (w ∷ vs) [] i v t p e h = absurd p
paired_set of (w ∷ vs) (u ∷ ts) zero v t p e h = let one : u ≡ t = cc in (subst (λ (x : _). of v x ≡ true) (sym one) h, p.1)
paired_set of (w ∷ vs) (u ∷ ts) (suc i) v t p e h = (p.0, paired_set of vs ts i v t p.1 e h)

-- ---- fields upwards

module _ (program : Program) (typing : Typing) (ok : IsTypedProgram program typing) where
  abbrev heads : List ListedClass
  heads = given_heads program typing ok

  abbrev all : ℕ
  all = length program.classes

  abbrev types_at : ℕ → Option LinkedClass → List VType
  types_at n o = option_map_or (λ (c : LinkedClass). types_up n program c.parent ++ own_types c.file) o []

  -- whether so many classes upwards are given
  stays_at : (n : ℕ) (name : Name) (class : LinkedClass) → class_given program name ≡ Some class
      → stays_within (suc n) heads name ≡ stays_within n heads class.parent
  stays_at n name class e =
      let g = given_is program typing ok name class e in
      let head : class_named heads class.name ≡ Some (head_of class.file) =
      ap (λ (classes : List ListedClass). class_named classes class.name) (heads_are program typing ok) ∙ own_head program typing ok g.own class g.there in
      ap (λ (m : Name). stays_within (suc n) heads m) (sym g.named)
      ∙ ap (λ (o : Option ListedClass). option_map_or (λ (c : ListedClass). stays_within n heads c.parent) o false) head
      ∙ ap (stays_within n heads) (given_parent program typing ok g.own class g.there)

  settled_at : (n : ℕ) (o : Option LinkedClass) (name : Name) → class_given program name ≡ o → stays_within (suc (suc n)) heads name ≡ false
      → ((parent : Name) → stays_within (suc n) heads parent ≡ false → types_up n program parent ≡ types_up (suc n) program parent)
      → types_at n o ≡ types_at (suc n) o
  settled_at n None name e f more = refl
  settled_at n (Some c) name e f more = ap (λ (l : List VType). l ++ own_types c.file) (more c.parent (sym (stays_at (suc n) name c e) ∙ f))

  begun_at : (o : Option LinkedClass) (name : Name) → class_given program name ≡ o → stays_within 1 heads name ≡ false → [] ≡ types_at zero o
  begun_at None name e f = refl
  begun_at (Some c) name e f = absurd (false≢true (sym f ∙ stays_at zero name c e))

  settled : (n : ℕ) (name : Name) → stays_within (suc n) heads name ≡ false → types_up n program name ≡ types_up (suc n) program name
  settled zero name f = begun_at (class_given program name) name refl f
  settled (suc n) name f = settled_at n (class_given program name) name refl f (settled n)

  ends_within : (own : ℕ) (class : LinkedClass) → slice_get program.classes own ≡ Some class → stays_within (suc all) heads class.name ≡ false
  ends_within own class there =
      let a = and_parts (is_super heads (head_of class.file).parent) _ (given_below program typing ok own class there) in
      let b = and_parts (list_all (is_above heads) (head_of class.file).interfaces) _ a.1 in
      let many : length heads ≡ all = ap length (heads_are program typing ok) ∙ length-map program.classes (λ (c : LinkedClass). head_of c.file) in
      let named : stays_within (suc (length heads)) heads class.name ≡ false =
      subst (λ (n : Name). stays_within (suc (length heads)) heads n ≡ false) (given_name program typing ok own class there) (not-true (runs_in_circle heads (head_of class.file).name) b.1) in
      subst (λ (k : ℕ). stays_within (suc k) heads class.name ≡ false) many named

  -- the fields of the class above, and then its own
  pub types_given : (own : ℕ) (class : LinkedClass) → slice_get program.classes own ≡ Some class
      → field_types program class.name ≡ field_types program class.parent ++ own_types class.file
  types_given own class there =
      by all refl (sym (stays_at all class.name class (given_found program typing ok own class there)) ∙ ends_within own class there) where
        by : (n : ℕ) → all ≡ n → stays_within n heads class.parent ≡ false
            → types_up n program class.name ≡ types_up n program class.parent ++ own_types class.file
        by zero e f = absurd (false≢true (sym f))
        by (suc n) e f =
            ap (types_at n) (given_found program typing ok own class there) ∙ ap (λ (l : List VType). l ++ own_types class.file) (settled n class.parent f)

  -- a class has no fields that the listing has, or nobody declares
  pub types_unknown : (name : Name) → class_given program name ≡ None → field_types program name ≡ []
  types_unknown name none = by all where
    by : (n : ℕ) → types_up n program name ≡ []
    by zero = refl
    by (suc n) = ap (types_at n) none

  -- ---- the fields of a class above stand first

  abbrev Begins : Name → Name → Type 0
  Begins name above = (more : List VType) × (field_types program name ≡ field_types program above ++ more)

  begins_itself : (name above : Name) → name ≡ above → Begins name above
  begins_itself name above e = ([], ap (field_types program) e ∙ sym (append-nil (field_types program above)))

  begins_at : (n : ℕ) (name above : Name) (class : LinkedClass) → class_given program name ≡ Some class
      → (is_up (classes_of program) n class.parent above ≡ true → Begins class.parent above)
      → one_named above (up_from (classes_of program) (Some (head_of class.file)) n) ≡ true → Begins name above
  begins_at n name above class e later up =
      let g = given_is program typing ok name class e in
      elim (or_cases (bytes_eq (head_of class.file).name above) (is_up (classes_of program) n (head_of class.file).parent above) up) [
        | inl is ↦ begins_itself name above (sym g.named ∙ sym (given_name program typing ok g.own class g.there) ∙ same_of (head_of class.file).name above is)
        | inr following ↦
            let b = later (subst (λ (p : Name). is_up (classes_of program) n p above ≡ true) (given_parent program typing ok g.own class g.there) following) in (
              b.0 ++ own_types class.file,
              ap (field_types program) (sym g.named) ∙ types_given g.own class g.there ∙ ap (λ (l : List VType). l ++ own_types class.file) b.1
                  ∙ append_assoc (field_types program above) b.0 (own_types class.file),
            )
      ]

  begins_found : (n : ℕ) (name above : Name) (o : Option LinkedClass) → class_given program name ≡ o
      → ((parent : Name) → is_up (classes_of program) n parent above ≡ true → Begins parent above)
      → one_named above (up_from (classes_of program) (option_map (λ (c : LinkedClass). head_of c.file) o) n) ≡ true → Begins name above
  begins_found n name above None e later up = absurd cc
  begins_found n name above (Some class) e later up = begins_at n name above class e (later class.parent) up

  begins_up : (n : ℕ) (name : Name) (own : ℕ) (class : LinkedClass) → slice_get program.classes own ≡ Some class → n ≤ count program typing ok
      → is_up (classes_of program) n name class.name ≡ true → Begins name class.name
  begins_up zero name own class there less e = absurd cc
  begins_up (suc n) name own class there less e =
      elim (cases_Bool (is_known program.listing.classes name)) [
        | inl known ↦
            absurd (given_unlisted program typing ok own class there
            (known_below program typing ok name class.name known (up_below program typing ok (suc n) name class.name less e)))
        | inr unknown ↦
            begins_found n name class.name (class_given program name) refl (λ parent up. begins_up n parent own class there (omega arith) up)
            (subst (λ (o : Option ListedClass). one_named class.name (up_from (classes_of program) o n) ≡ true) (not_known_found program typing ok name unknown) e)
      ]

  pub types_begin : (name : Name) (own : ℕ) (class : LinkedClass) → slice_get program.classes own ≡ Some class → is_below program name class.name ≡ true
      → Begins name class.name
  types_begin name own class there e = begins_up (count program typing ok) name own class there (omega arith) e

  -- ---- the place of a field

  pub place_typed : (own : ℕ) (class : LinkedClass) (field : ℕ) (member : Member) → slice_get program.classes own ≡ Some class
      → slice_get class.file.fields field ≡ Some member → is_static member.flags ≡ false
      → slice_get (field_types program class.name) (place_of_field program class field) ≡ Some (type_described (desc_of class.file.pool member))
  place_typed own class field member there here apart =
      let own_place = own_at is_in_objects (λ (m : Member). type_described (desc_of class.file.pool m)) class.file.fields field member here (ap not apart) in
      let above : length (fields_of program class.parent) ≡ length (field_types program class.parent) = up_length program all class.parent in
      let after : ℕ = length (filter is_in_objects (take field class.file.fields)) in
      ap (λ (l : List VType). slice_get l (place_of_field program class field)) (types_given own class there)
      ∙ ap (λ (n : ℕ). slice_get (field_types program class.parent ++ own_types class.file) (n + after)) above
      ∙ get_after (field_types program class.parent) (own_types class.file) after ∙ own_place

  -- the same in objects of a class below
  pub place_begins : (name : Name) (own : ℕ) (class : LinkedClass) (field : ℕ) (member : Member) → slice_get program.classes own ≡ Some class
      → slice_get class.file.fields field ≡ Some member → is_static member.flags ≡ false
      → (name ≡ class.name) ⊎ (is_below program name class.name ≡ true)
      → slice_get (field_types program name) (place_of_field program class field) ≡ Some (type_described (desc_of class.file.pool member))
  place_begins name own class field member there here apart (inl same) =
      ap (λ (n : Name). slice_get (field_types program n) (place_of_field program class field)) same ∙ place_typed own class field member there here apart
  place_begins name own class field member there here apart (inr below) =
      let b = types_begin name own class there below in
      ap (λ (l : List VType). slice_get l (place_of_field program class field)) b.1
      ∙ get_front (field_types program class.name) b.0 (place_of_field program class field) _ (place_typed own class field member there here apart)
