-- The result's text in a descriptor, and the plain answer by it.
use Rattle.std.proofs.Common.{◌≡◌, ◌≢◌, ℕ, zero, suc, Bool, true, false, eqb, ◌||◌, List, [], ◌∷◌, ◌++◌, Option, Some, None, refl, sym, ap, ◌∙◌, append_assoc, arith}
use Rattle.std.specs.Prelude.{replicate}
use Rattle.std.specs.List.{list_all, list_any, flat_map}
use Rattle.std.proofs.lemmas.Bool.{false≢true, ne_eqb}
use Rattle.api_listing.specs.declared.descriptor.Element.{Element}
use Rattle.api_listing.specs.declared.descriptor.Element.TheVariants.{Boolean, Byte, Char, Short, Int, Class}
use Rattle.api_listing.specs.declared.descriptor.FieldType.{FieldType}
use Rattle.api_listing.specs.declared.descriptor.MethodType.{MethodType}
use Rattle.api_listing.specs.declared.events.ApiCall.{ApiCall}
use Rattle.api_listing.specs.Words.{is_class_name}
use Rattle.api_listing.specs.Descriptor.{class_encoded, element_encoded, type_encoded, result_encoded, is_element, is_type, is_result, class_described, EncodesDescriptor}
use Rattle.api_listing.proofs.ClassBytes.{class_has_none}
use Rattle.api_listing.proofs.DescriptorLaws.{both, class_descriptor_again}
use Rattle.api_shelf.specs.Plain.{plain_answer, plain_for, plain_encoded, plain_named, result_text}

-- ---- names have no `)`

abbrev closes : ℕ → Bool
closes b = eqb b 41

abbrev has_bracket : List ℕ → Bool
has_bracket text = list_any closes text

-- ---- nor have types

-- what is before the bracket is passed over
past_next : (b : ℕ) (bytes following : List ℕ) → (has_bracket bytes ≡ false → result_text (bytes ++ following) ≡ result_text following) → has_bracket (b ∷ bytes) ≡ false → result_text (b ∷ (bytes ++ following)) ≡ result_text following
past_next b bytes following others none = by (closes b) refl none where
  by : (here : Bool) → closes b ≡ here → (here || has_bracket bytes) ≡ false → result_text (b ∷ (bytes ++ following)) ≡ result_text following
  by true is h = absurd (false≢true (sym h))
  by false is h = rw is (others h)

past : (text following : List ℕ) → has_bracket text ≡ false → result_text (text ++ following) ≡ result_text following
past [] following none = refl
past (b ∷ bytes) following none = past_next b bytes following (past bytes following) none

past_class : (name following : List ℕ) → is_class_name name ≡ true → result_text ((76 ∷ (name ++ 59 ∷ [])) ++ following) ≡ result_text following
past_class name following named =
    ap result_text (ap (λ (t : List ℕ). 76 ∷ t) (append_assoc name (59 ∷ []) following))
    ∙ past name (59 ∷ following) (class_has_none 41 refl refl name named)

past_element : (e : Element) (following : List ℕ) → is_element e ≡ true → result_text (element_encoded e ++ following) ≡ result_text following
past_element Boolean following good = refl
past_element Byte following good = refl
past_element Char following good = refl
past_element Short following good = refl
past_element Int following good = refl
past_element (Class name) following good = past_class name following good

past_dimensions : (n : ℕ) (e : Element) (following : List ℕ) → is_element e ≡ true → result_text ((replicate n 91 ++ element_encoded e) ++ following) ≡ result_text following
past_dimensions zero e following good = past_element e following good
past_dimensions (suc n) e following good = past_dimensions n e following good

past_types : (ts : List FieldType) (following : List ℕ) → list_all is_type ts ≡ true → result_text (flat_map type_encoded ts ++ following) ≡ result_text following
past_types [] following good = refl
past_types (t ∷ ts) following good =
    let p = both (is_type t) (list_all is_type ts) good in
    ap result_text (append_assoc (type_encoded t) (flat_map type_encoded ts) following)
    ∙ past_dimensions t.dimensions t.element (flat_map type_encoded ts ++ following) p.0
    ∙ past_types ts following p.1

result_text_is : (desc : List ℕ) (m : MethodType) → EncodesDescriptor desc m → result_text desc ≡ result_encoded m.result
result_text_is desc m s = ap result_text s.encoded ∙ past_types m.arguments (41 ∷ result_encoded m.result) s.arguments

-- ---- the answer

named_is : (call : ApiCall) (name : List ℕ) → is_class_name name ≡ true → plain_encoded call (class_encoded name) ≡ plain_for call (Some (record { dimensions = 0; element = Class name }))
named_is call name named =
    let found : class_described (class_encoded name) ≡ Some name = class_descriptor_again (class_encoded name) name (record { encoded = refl; named = named }) in
    ap (plain_named call) found

type_is : (call : ApiCall) (n : ℕ) (e : Element) → is_element e ≡ true → plain_encoded call (replicate n 91 ++ element_encoded e) ≡ plain_for call (Some (record { dimensions = n; element = e }))
type_is call (suc n) e good =
    let deep : eqb (suc n) 0 ≡ false = ne_eqb (suc n) 0 (λ is. omega arith) in
    rw deep refl
type_is call zero Boolean good = refl
type_is call zero Byte good = refl
type_is call zero Char good = refl
type_is call zero Short good = refl
type_is call zero Int good = refl
type_is call zero (Class name) good = named_is call name good

result_is : (call : ApiCall) (r : Option FieldType) → is_result r ≡ true → plain_encoded call (result_encoded r) ≡ plain_for call r
result_is call None good = refl
result_is call (Some t) good = type_is call t.dimensions t.element good

pub plain_is : (call : ApiCall) (m : MethodType) → EncodesDescriptor call.method.desc m → plain_answer call ≡ plain_for call m.result
plain_is call m s = ap (plain_encoded call) (result_text_is call.method.desc m s) ∙ result_is call m.result s.result
