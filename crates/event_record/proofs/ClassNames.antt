-- The names of classes and of arrays are words: those of a linked program, of its listing, and of what the machine throws.
use Rattle.std.proofs.Common.{◌≡◌, ◌≢◌, ℕ, zero, suc, ◌-◌, Bool, true, false, cond, List, [], ◌∷◌, ◌++◌, length, take, filter, replicate, Option, Some, None, refl, sym, ap, subst, ◌∙◌, arith}
use Rattle.std.specs.Prelude.{◌==◌, bytes_eq, codes}
use Rattle.std.specs.List.{AllByRecursion, filter_map, list_all}
use Rattle.std.specs.Option.{option_map_or}
use Rattle.std.proofs.lemmas.Bool.{and_parts, false≢true}
use Rattle.std.proofs.lemmas.List.{length-append}
use Rattle.std.proofs.lemmas.Slice.Eq.{bytes_eq-Decides}
use Rattle.mon_base.specs.declared.method.MethodId.{MethodId}
use Rattle.api_listing.specs.declared.declaration.Declaration.{Declaration}
use Rattle.api_listing.specs.declared.declaration.Declaration.TheVariants.{Class, Method, Field}
use Rattle.api_listing.specs.declared.descriptor.Element.{Element}
use Rattle.api_listing.specs.declared.descriptor.Element.TheVariants as elements
use Rattle.api_listing.specs.declared.descriptor.FieldType.{FieldType}
use Rattle.api_listing.specs.declared.types.ListedClass.{ListedClass}
use Rattle.api_listing.specs.declared.types.Listing.{Listing}
use Rattle.api_listing.specs.BuiltIn.{built_in_classes, class_rows}
use Rattle.api_listing.specs.Descriptor.{EncodesClass, element_encoded, is_type, type_encoded}
use Rattle.api_listing.specs.Lines.{says_something}
use Rattle.api_listing.specs.Listing.{AreSaid, EncodesListing, class_declared, field_declared, is_known}
use Rattle.api_listing.specs.Nearest.{class_named as nearest_named}
use Rattle.api_listing.specs.Words.{is_class_name, is_name_byte}
use Rattle.api_listing.proofs.ClassBytes.{class_bytes}
use Rattle.bytecode_model.specs.Arrays.{array_of, described, is_array}
use Rattle.bytecode_model.specs.Makes.{array_named}
use Rattle.bytecode_model.specs.SearchOrder.{Name}
use Rattle.guest_model.proofs.Options.{all_append}
use Rattle.guest_model.specs.Calling.{second_start}
use Rattle.guest_model.specs.Parts.{bad_monitor, null_pointer}
use Rattle.guest_model.specs.Runs.{inner}
use Rattle.guest_model.specs.HeapOperations.{bad_cast, bad_division, bad_item, bad_place, bad_size}
use Rattle.event_record.specs.Printing.{HasNoBreak}
use Rattle.event_record.proofs.Unbroken.{joined, written}
use Rattle.event_record.proofs.WrittenLines.{IsNamed}

-- ---- names that are written out

some_name : (b : ℕ) (word : List ℕ) → HasNoBreak (b ∷ word) → IsNamed (b ∷ word)
some_name b word h = (λ e. absurd cc, h)

pub null_pointer_named : IsNamed null_pointer
null_pointer_named = some_name _ _ (written null_pointer refl)

pub bad_monitor_named : IsNamed bad_monitor
bad_monitor_named = some_name _ _ (written bad_monitor refl)

pub second_start_named : IsNamed second_start
second_start_named = some_name _ _ (written second_start refl)

pub bad_division_named : IsNamed bad_division
bad_division_named = some_name _ _ (written bad_division refl)

pub bad_place_named : IsNamed bad_place
bad_place_named = some_name _ _ (written bad_place refl)

pub bad_item_named : IsNamed bad_item
bad_item_named = some_name _ _ (written bad_item refl)

pub bad_size_named : IsNamed bad_size
bad_size_named = some_name _ _ (written bad_size refl)

pub bad_cast_named : IsNamed bad_cast
bad_cast_named = some_name _ _ (written bad_cast refl)

pub strings_named : IsNamed (codes "[Ljava/lang/String;")
strings_named = some_name _ _ (written (codes "[Ljava/lang/String;") refl)

-- ---- arrays

either_named : (b : Bool) (x y : List ℕ) → IsNamed x → IsNamed y → IsNamed (cond b x y)
either_named true x y p q = p
either_named false x y p q = q

pub kind_named : (kind : ℕ) → IsNamed (array_named kind)
kind_named kind =
    either_named (kind == 4) _ _ (some_name _ _ (written (codes "[Z") refl))
    (either_named (kind == 5) _ _ (some_name _ _ (written (codes "[C") refl))
    (either_named (kind == 8) _ _ (some_name _ _ (written (codes "[B") refl))
    (either_named (kind == 9) _ _ (some_name _ _ (written (codes "[S") refl)) (some_name _ _ (written (codes "[I") refl)))))

abbrev IsNoBreak : ℕ → Type 0
IsNoBreak b = (b ≢ 32) × (b ≢ 10)

of_class : (name : Name) → HasNoBreak name → HasNoBreak (76 ∷ (name ++ 59 ∷ []))
of_class name h = ((λ e. omega (arith, e), λ e. omega (arith, e)), joined IsNoBreak name (59 ∷ []) h ((λ e. omega (arith, e), λ e. omega (arith, e)), tt))

item_unbroken : (b : Bool) (name : Name) → HasNoBreak name → HasNoBreak (cond b name (76 ∷ (name ++ 59 ∷ [])))
item_unbroken true name h = h
item_unbroken false name h = of_class name h

pub array_of_named : (name : Name) → IsNamed name → IsNamed (array_of name)
array_of_named name h = some_name 91 (described name) ((λ e. omega (arith, e), λ e. omega (arith, e)), item_unbroken (is_array name) name h.1)

-- ---- names of classes

name_byte : (b : ℕ) → is_name_byte b ≡ true → IsNoBreak b
name_byte b named = (λ e. false≢true (sym (ap is_name_byte e) ∙ named), λ e. false≢true (sym (ap is_name_byte e) ∙ named))

pub class_named : (name : List ℕ) → is_class_name name ≡ true → IsNamed name
class_named [] e = absurd (false≢true e)
class_named (b ∷ name) e = some_name b name (class_bytes IsNoBreak (λ e. omega (arith, e), λ e. omega (arith, e)) name_byte (b ∷ name) e)

-- ---- types

element_named : (e : Element) → is_type (record { dimensions = 0; element = e }) ≡ true → IsNamed (element_encoded e)
element_named elements.Boolean h = some_name _ _ (written (codes "Z") refl)
element_named elements.Byte h = some_name _ _ (written (codes "B") refl)
element_named elements.Char h = some_name _ _ (written (codes "C") refl)
element_named elements.Short h = some_name _ _ (written (codes "S") refl)
element_named elements.Int h = some_name _ _ (written (codes "I") refl)
element_named (elements.Class name) h = some_name _ _ (of_class name (class_named name h).1)

deeper_named : (n : ℕ) (text : List ℕ) → IsNamed text → IsNamed (replicate n 91 ++ text)
deeper_named zero text h = h
deeper_named (suc n) text h = some_name _ _ ((λ e. omega (arith, e), λ e. omega (arith, e)), (deeper_named n text h).1)

pub type_named : (t : FieldType) → is_type t ≡ true → IsNamed (type_encoded t)
type_named t h = deeper_named t.dimensions (element_encoded t.element) (element_named t.element h)

-- the class in the descriptor of a field
front_is : (name : List ℕ) (end : List ℕ) → take (length name) (name ++ end) ≡ name
front_is [] end = refl
front_is (b ∷ name) end = ap (λ (t : List ℕ). b ∷ t) (front_is name end)

inner_is : (name : List ℕ) → take (length (name ++ 59 ∷ []) - 1) (name ++ 59 ∷ []) ≡ name
inner_is name =
    let long = length-append name (59 ∷ []) in
    let less : length (name ++ 59 ∷ []) - 1 ≡ length name = omega (arith, long) in
    ap (λ (n : ℕ). take n (name ++ 59 ∷ [])) less ∙ front_is name (59 ∷ [])

pub inner_named : (desc name : List ℕ) → EncodesClass desc name → IsNamed (inner desc)
inner_named desc name s = subst IsNamed (sym (ap inner s.encoded ∙ inner_is name)) (class_named name s.named)

-- ---- the classes and the fields of a listing

abbrev pub ClassesNamed : List ListedClass → Type 0
ClassesNamed classes = AllByRecursion (λ (c : ListedClass). IsNamed c.name) classes

proper : (classes : List ListedClass) → list_all (λ (c : ListedClass). is_class_name c.name) classes ≡ true → ClassesNamed classes
proper [] e = tt
proper (c ∷ classes) e =
    let a = and_parts (is_class_name c.name) (list_all (λ (d : ListedClass). is_class_name d.name) classes) e in
    (class_named c.name a.0, proper classes a.1)

built_in_proper : list_all (λ (c : ListedClass). is_class_name c.name) built_in_classes ≡ true
unfolding class_rows
built_in_proper = refl

classes_said : (lines : List (List ℕ)) (said : List Declaration) → AreSaid lines said → ClassesNamed (filter_map class_declared said)
classes_said [] [] are = tt
classes_said [] (d ∷ said) are = absurd are
classes_said (line ∷ lines) [] are = absurd are
classes_said (line ∷ lines) (Class c ∷ said) are = (class_named c.name are.0.name, classes_said lines said are.1)
classes_said (line ∷ lines) (Method m types ∷ said) are = classes_said lines said are.1
classes_said (line ∷ lines) (Field id class ∷ said) are = classes_said lines said are.1

abbrev pub FieldsNamed : List MethodId → Type 0
FieldsNamed fields = AllByRecursion (λ (f : MethodId). IsNamed (inner f.desc)) fields

fields_said : (lines : List (List ℕ)) (said : List Declaration) → AreSaid lines said → FieldsNamed (filter_map field_declared said)
fields_said [] [] are = tt
fields_said [] (d ∷ said) are = absurd are
fields_said (line ∷ lines) [] are = absurd are
fields_said (line ∷ lines) (Class c ∷ said) are = fields_said lines said are.1
fields_said (line ∷ lines) (Method m types ∷ said) are = fields_said lines said are.1
fields_said (line ∷ lines) (Field id class ∷ said) are = (inner_named id.desc class are.0.1, fields_said lines said are.1)

module _ (text : List ℕ) (listing : Listing) (encodes : EncodesListing text listing) where
  pub listed_classes : ClassesNamed listing.classes
  listed_classes =
      subst (λ (l : Listing). ClassesNamed l.classes) (sym encodes.listed)
      (all_append (λ (c : ListedClass). IsNamed c.name) built_in_classes (filter_map class_declared encodes.said)
      (proper built_in_classes built_in_proper) (classes_said (filter says_something encodes.lines) encodes.said encodes.encoded))

  pub listed_fields : FieldsNamed listing.fields
  listed_fields =
      subst (λ (l : Listing). FieldsNamed l.fields) (sym encodes.listed) (fields_said (filter says_something encodes.lines) encodes.said encodes.encoded)

-- ---- classes that are known

pub known_named : (classes : List ListedClass) → ClassesNamed classes → (name : List ℕ) → is_known classes name ≡ true → IsNamed name
known_named [] all name e = absurd cc
known_named (c ∷ classes) all name e = by (bytes_eq c.name name) refl (known_named classes all.1 name) where
  by : (b : Bool) → bytes_eq c.name name ≡ b → (is_known classes name ≡ true → IsNamed name) → IsNamed name
  by true is others = subst IsNamed ((bytes_eq-Decides c.name name).0 is) all.0
  by false is others = let rest : is_known classes name ≡ true = rw is at e in others rest

pub holds_at : {A : Type 0} (p : A → Bool) (o : Option A) → option_map_or p o false ≡ true → (x : A) × (o ≡ Some x) × (p x ≡ true)
holds_at p None e = absurd cc
holds_at p (Some x) e = (x, refl, e)

pub found_known : (classes : List ListedClass) (class : List ℕ) (c : ListedClass) → nearest_named classes class ≡ Some c → is_known classes class ≡ true
found_known [] class c e = absurd cc
found_known (d ∷ classes) class c e = by (bytes_eq d.name class) refl (found_known classes class c) where
  by : (b : Bool) → bytes_eq d.name class ≡ b → (nearest_named classes class ≡ Some c → is_known classes class ≡ true)
      → is_known (d ∷ classes) class ≡ true
  by true is others = rw is refl
  by false is others =
      let rest : nearest_named classes class ≡ Some c = rw is at e in
      let known = others rest in
      rw is known
