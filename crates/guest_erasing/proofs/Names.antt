-- Names that have nothing to do with conspec/State, and what they are made of.
use Rattle.std.proofs.Common.{◌≡◌, ◌≢◌, ℕ, zero, suc, ◌-◌, Bool, true, false, ◌||◌, ◌&&◌, List, [], ◌∷◌, length, take, Some, None, refl, sym, ap, ◌∙◌}
use Rattle.std.specs.Prelude.{nat_eq, bytes_eq, if◌then◌else◌}
use Rattle.std.specs.List.{starts_with}
use Rattle.std.proofs.lemmas.Bool.{false≢true}
use Rattle.api_listing.specs.Listing.{own_class}
use Rattle.bytecode_model.specs.Arrays.{is_array}
use Rattle.bytecode_model.specs.Assigning.{class_name, named, reference_of}
use Rattle.bytecode_model.specs.Conditions.{holds}
use Rattle.bytecode_model.proofs.Placing.{test_cases, same_name}
use Rattle.guest_erasing.specs.Laid.{IsClientName, names_state}
use Rattle.guest_model.proofs.Options.{IfThere, if_none, if_some}

pub other_name : (a b : List ℕ) → a ≢ b → bytes_eq a b ≡ false
other_name a b other = test_cases (bytes_eq a b) (λ t. t ≡ false) (λ e. absurd (other (same_name a b e))) (λ e. refl)

-- a name that does not hold it is not it
pub free_other : (name : List ℕ) → holds own_class name ≡ false → name ≢ own_class
free_other name free e = false≢true (sym free ∙ ap (holds own_class) e)

pub client_other : (name : List ℕ) → IsClientName name → name ≢ own_class
client_other name client e = false≢true (sym client ∙ ap names_state e)

pub free_client : (name : List ℕ) → holds own_class name ≡ false → IsClientName name
free_client name free = by (is_array name) where
  by : (b : Bool) → (if b then holds own_class name else bytes_eq name own_class) ≡ false
  by true = free
  by false = other_name name own_class (free_other name free)

-- ---- parts of a name

pub neither : (a b : Bool) → (a || b) ≡ false → (a ≡ false) × (b ≡ false)
neither true b e = absurd (false≢true (sym e))
neither false b e = (refl, e)

module _ (part : List ℕ) where
  pub free_rest : (c : ℕ) (text : List ℕ) → holds part (c ∷ text) ≡ false → holds part text ≡ false
  free_rest c text free = (neither (starts_with nat_eq (c ∷ text) part) (holds part text) free).1

-- what begins the front of a text begins the text
begins : (k : ℕ) (text part : List ℕ) → starts_with nat_eq (take k text) part ≡ true → starts_with nat_eq text part ≡ true
begins k text [] e = refl
begins zero text (p ∷ part) e = absurd (false≢true e)
begins (suc k) [] (p ∷ part) e = e
begins (suc k) (c ∷ text) (p ∷ part) e = by (nat_eq p c) _ _ (begins k text part) e where
  by : (b front all : Bool) → (front ≡ true → all ≡ true) → (b && front) ≡ true → (b && all) ≡ true
  by true front all rest e = rest e
  by false front all rest e = e

pub free_front : (k : ℕ) (text : List ℕ) → holds own_class text ≡ false → holds own_class (take k text) ≡ false
free_front zero text free = refl
free_front (suc k) [] free = refl
free_front (suc k) (c ∷ text) free =
    let both = neither (starts_with nat_eq (c ∷ text) own_class) (holds own_class text) free in
    let first : starts_with nat_eq (c ∷ take k text) own_class ≡ false =
    test_cases (starts_with nat_eq (c ∷ take k text) own_class) (λ b. b ≡ false)
    (λ e. absurd (false≢true (sym both.0 ∙ begins (suc k) (c ∷ text) own_class e))) (λ e. refl) in
    ap (λ (b : Bool). b || holds own_class (take k text)) first ∙ free_front k text both.1

-- ---- what a component of an array names

abbrev Free : List ℕ → Type 0
Free name = holds own_class name ≡ false

class_free : (name : List ℕ) → Free name → IfThere Free (class_name name)
class_free name free = by (is_array name) where
  by : (b : Bool) → IfThere Free (if b then None else Some name)
  by true = if_none Free
  by false = if_some Free name free

named_free : (component : List ℕ) → Free component → IfThere Free (named component)
named_free [] free = if_none Free
named_free (c ∷ rest) free = by _ where
  by : (b : Bool) → IfThere Free (if b then class_name (take (length rest - 1) rest) else None)
  by true = class_free (take (length rest - 1) rest) (free_front (length rest - 1) rest (free_rest own_class c rest free))
  by false = if_none Free

pub reference_free : (component : List ℕ) → holds own_class component ≡ false
    → IfThere (λ name. holds own_class name ≡ false) (reference_of component)
reference_free component free = by (is_array component) where
  by : (b : Bool) → IfThere Free (if b then Some component else named component)
  by true = if_some Free component free
  by false = named_free component free
