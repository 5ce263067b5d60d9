-- What is read off a descriptor is what it encodes.
use Rattle.std.proofs.Common.{◌≡◌, ◌≢◌, ℕ, zero, suc, ◌+◌, ◌≤◌, Bool, true, false, List, [], ◌∷◌, ◌++◌, ◌⊎◌, length, map, replicate, Some, Ok, refl, sym, ap, ◌∙◌, inl, inr, eqb, append_assoc, arith}
use Rattle.std.specs.Prelude.{◌||◌, ◌==◌}
use Rattle.std.specs.List.{AllByRecursion, list_all, flat_map}
use Rattle.std.proofs.lemmas.Bool.{false≢true}
use Rattle.std.proofs.lemmas.Bool.Decides.{eqb_tells}
use Rattle.std.proofs.lemmas.List.{take_at, drop_at, length-append}
use Rattle.api_listing.specs.declared.descriptor.Element.{Element}
use Rattle.api_listing.specs.declared.descriptor.Element.TheVariants as elements
use Rattle.api_listing.specs.declared.descriptor.FieldType.{FieldType}
use Rattle.api_listing.specs.declared.descriptor.MethodType.{MethodType}
use Rattle.api_listing.specs.Descriptor.{class_encoded, element_encoded, type_encoded, result_encoded, is_element, is_type, method_type, EncodesDescriptor}
use Rattle.api_listing.specs.Words.{is_name_byte, is_class_name}
use Rattle.api_listing.proofs.ClassBytes.{class_bytes_pass}
use Rattle.api_listing.proofs.DescriptorLaws.{both, method_found}
use Rattle.bytecode_model.specs.Described.{Descriptor, name_length, type_length, first_type, after_type, next_type, types_at, arguments, result_text}

-- ---- names of classes

-- a byte of a class's name
abbrev pub is_path_byte : ℕ → Bool
is_path_byte b = is_name_byte b || b == 47

abbrev pub is_path : List ℕ → Bool
is_path name = list_all is_path_byte name

path_byte : (b : ℕ) → is_name_byte b ≡ true → is_path_byte b ≡ true
path_byte b e = rw e refl

-- no byte of a name is one that is none of a name
apart : (b other : ℕ) → is_path_byte other ≡ false → is_path_byte b ≡ true → (b == other) ≡ false
apart b other none is = by (eqb_tells b other) where
  by : ((eqb b other ≡ true) × (b ≡ other)) ⊎ ((eqb b other ≡ false) × (b ≢ other)) → eqb b other ≡ false
  by (inl p) = absurd (false≢true (sym none ∙ ap is_path_byte (sym p.1) ∙ is))
  by (inr p) = p.0

pub path_of_class : (name : List ℕ) → is_class_name name ≡ true → is_path name ≡ true
path_of_class name e = class_bytes_pass is_path_byte refl path_byte name e

name_long : (name rest : List ℕ) → is_path name ≡ true → name_length (name ++ 59 ∷ rest) ≡ length name + 1
name_long [] rest e = refl
name_long (b ∷ name) rest e =
    let p = both (is_path_byte b) (is_path name) e in
    let other = apart b 59 refl p.0 in
    rw (other, name_long name rest p.1) (omega arith)

name_passed : (name rest : List ℕ) → is_path name ≡ true → result_text (name ++ 59 ∷ rest) ≡ result_text rest
name_passed [] rest e = refl
name_passed (b ∷ name) rest e =
    let p = both (is_path_byte b) (is_path name) e in
    let other = apart b 41 refl p.0 in
    rw other (name_passed name rest p.1)

-- ---- types

-- The text is read as one type, and closes no arguments.
pub record IsTypeText (text : List ℕ) : Type 0 where
  pub long : (rest : List ℕ) → type_length (text ++ rest) ≡ length text
  pub begins : (rest : List ℕ) → next_type (text ++ rest) ≡ Some (first_type (text ++ rest), after_type (text ++ rest))
  pub passed : (rest : List ℕ) → result_text (text ++ rest) ≡ result_text rest

pub boolean_text : IsTypeText (90 ∷ [])
boolean_text = record { long = λ rest. refl; begins = λ rest. refl; passed = λ rest. refl }

pub byte_text : IsTypeText (66 ∷ [])
byte_text = record { long = λ rest. refl; begins = λ rest. refl; passed = λ rest. refl }

pub char_text : IsTypeText (67 ∷ [])
char_text = record { long = λ rest. refl; begins = λ rest. refl; passed = λ rest. refl }

pub short_text : IsTypeText (83 ∷ [])
short_text = record { long = λ rest. refl; begins = λ rest. refl; passed = λ rest. refl }

pub int_text : IsTypeText (73 ∷ [])
int_text = record { long = λ rest. refl; begins = λ rest. refl; passed = λ rest. refl }

pub class_text : (name : List ℕ) → is_path name ≡ true → IsTypeText (class_encoded name)
class_text name e =
    let around : (rest : List ℕ) → (name ++ 59 ∷ []) ++ rest ≡ name ++ 59 ∷ rest = λ rest. append_assoc name (59 ∷ []) rest in
    record {
      long = λ rest. ap (λ (t : List ℕ). name_length t + 1) (around rest) ∙ ap (λ (n : ℕ). n + 1) (name_long name rest e) ∙ omega (arith, length-append name (59 ∷ []));
      begins = λ rest. refl;
      passed = λ rest. ap result_text (around rest) ∙ name_passed name rest e;
    }

deeper_text : (text : List ℕ) → IsTypeText text → IsTypeText (91 ∷ text)
deeper_text text is = record { long = λ rest. omega (arith, is.long rest); begins = λ rest. refl; passed = is.passed }

pub array_text : (n : ℕ) (text : List ℕ) → IsTypeText text → IsTypeText (replicate n 91 ++ text)
array_text zero text is = is
array_text (suc n) text is = deeper_text (replicate n 91 ++ text) (array_text n text is)

element_text : (e : Element) → is_element e ≡ true → IsTypeText (element_encoded e)
element_text elements.Boolean good = boolean_text
element_text elements.Byte good = byte_text
element_text elements.Char good = char_text
element_text elements.Short good = short_text
element_text elements.Int good = int_text
element_text (elements.Class name) good = class_text name (path_of_class name good)

pub type_text : (t : FieldType) → is_type t ≡ true → IsTypeText (type_encoded t)
type_text t good = array_text t.dimensions (element_encoded t.element) (element_text t.element good)

next_is : (text rest : List ℕ) → IsTypeText text → next_type (text ++ rest) ≡ Some (text, rest)
next_is text rest is =
    let front : first_type (text ++ rest) ≡ text = take_at text rest (type_length (text ++ rest)) (sym (is.long rest)) in
    let back : after_type (text ++ rest) ≡ rest = drop_at text rest (type_length (text ++ rest)) (sym (is.long rest)) in
    is.begins rest ∙ ap (λ (t : List ℕ). Some (t, after_type (text ++ rest))) front ∙ ap (λ (t : List ℕ). Some (text, t)) back

-- ---- arguments

module _ {X : Type 0} (encode : X → List ℕ) where
  types_read : (n : ℕ) (xs : List X) (rest : List ℕ) → length xs ≤ n → AllByRecursion (λ x. IsTypeText (encode x)) xs → types_at n (flat_map encode xs ++ 41 ∷ rest) ≡ map encode xs
  unfolding types_at
  types_read zero [] rest few are = refl
  types_read (suc n) [] rest few are = refl
  types_read zero (x ∷ xs) rest few are = absurd (omega arith)
  types_read (suc n) (x ∷ xs) rest few are =
      let following : List ℕ = flat_map encode xs ++ 41 ∷ rest in
      let split : (encode x ++ flat_map encode xs) ++ 41 ∷ rest ≡ encode x ++ following = append_assoc (encode x) (flat_map encode xs) (41 ∷ rest) in
      let first : next_type ((encode x ++ flat_map encode xs) ++ 41 ∷ rest) ≡ Some (encode x, following) = ap next_type split ∙ next_is (encode x) following are.0 in
      rw first (ap (λ (ts : List Descriptor). encode x ∷ ts) (types_read n xs rest (omega (arith, few)) are.1))

  passed : (xs : List X) (rest : List ℕ) → AllByRecursion (λ x. IsTypeText (encode x)) xs → result_text (flat_map encode xs ++ 41 ∷ rest) ≡ rest
  passed [] rest are = refl
  passed (x ∷ xs) rest are =
      ap result_text (append_assoc (encode x) (flat_map encode xs) (41 ∷ rest)) ∙ are.0.passed (flat_map encode xs ++ 41 ∷ rest) ∙ passed xs rest are.1

  -- The arguments of a descriptor that is encoded of texts of types are those.
  pub arguments_encoded : (desc : List ℕ) (xs : List X) (result : List ℕ) → desc ≡ 40 ∷ (flat_map encode xs ++ 41 ∷ result) → length xs ≤ 255 → AllByRecursion (λ x. IsTypeText (encode x)) xs
      → arguments desc ≡ map encode xs
  arguments_encoded desc xs result is few are = ap arguments is ∙ types_read 255 xs result few are

  pub result_encoded_so : (desc : List ℕ) (xs : List X) (result : List ℕ) → desc ≡ 40 ∷ (flat_map encode xs ++ 41 ∷ result) → AllByRecursion (λ x. IsTypeText (encode x)) xs → result_text desc ≡ result
  result_encoded_so desc xs result is are = ap result_text is ∙ passed xs result are

-- ---- descriptors of methods

type_texts : (ts : List FieldType) → list_all is_type ts ≡ true → AllByRecursion (λ (t : FieldType). IsTypeText (type_encoded t)) ts
type_texts [] good = tt
type_texts (t ∷ ts) good =
    let p = both (is_type t) (list_all is_type ts) good in
    (type_text t p.0, type_texts ts p.1)

-- the types of the arguments and of the result are those that the descriptor encodes
pub described_so : (desc : List ℕ) (m : MethodType) → EncodesDescriptor desc m → (arguments desc ≡ map type_encoded m.arguments) × (result_text desc ≡ result_encoded m.result)
described_so desc m s =
    let texts = type_texts m.arguments s.arguments in (
      arguments_encoded type_encoded desc m.arguments (result_encoded m.result) s.encoded s.places texts,
      result_encoded_so type_encoded desc m.arguments (result_encoded m.result) s.encoded texts,
    )

-- What is read off a descriptor is what the listing reads of it.
pub read_so : (desc : List ℕ) (m : MethodType) → method_type desc ≡ Ok m → (arguments desc ≡ map type_encoded m.arguments) × (result_text desc ≡ result_encoded m.result)
read_so desc m e = described_so desc m (method_found desc m e)
