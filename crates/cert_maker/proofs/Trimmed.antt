-- Types without the Tops after the last other type.
use Rattle.std.proofs.Common.{◌≡◌, ℕ, zero, suc, ◌+◌, ◌-◌, ◌≤◌, Bool, true, false, List, [], ◌∷◌, length, take, Option, Some, None, refl, sym, ap, ◌∙◌, arith}
use Rattle.std.specs.Prelude.{slice_get, ◌||◌}
use Rattle.std.specs.List.{list_any}
use Rattle.std.proofs.lemmas.Bool.{and_parts}
use Rattle.cert_format.specs.declared.typing.VType.{VType}
use Rattle.cert_format.specs.declared.typing.VType.TheVariants as types
use Rattle.cert_format.specs.Fits.{ends_with_top, is_top}
use Rattle.bytecode_model.specs.declared.program.Program.{Program}
use Rattle.bytecode_model.specs.Assigning.{assignable}
use Rattle.bytecode_model.specs.Makes.{is_same_object, type_at}
use Rattle.bytecode_model.specs.Rules.{has_object, locals_fit}
use Rattle.cert_maker.specs.Canonical.{before_others, trimmed}

-- ---- the end of a list

-- the last of the types before others is that of the others
ends_later : (t u : VType) (list : List VType) → ends_with_top (t ∷ u ∷ list) ≡ ends_with_top (u ∷ list)
ends_later t u list =
    let last : length (t ∷ u ∷ list) - 1 ≡ suc (length (u ∷ list) - 1) = omega arith in
    ap (λ (i : ℕ). is_top (slice_get (t ∷ u ∷ list) i)) last

-- what does not end with Top stays
pub trimmed_stays : (list : List VType) → ends_with_top list ≡ false → trimmed list ≡ list
trimmed_stays [] e = refl
trimmed_stays (types.Top ∷ []) e = absurd cc
trimmed_stays (types.Int ∷ []) e = refl
trimmed_stays (types.Null ∷ []) e = refl
trimmed_stays (types.Ref name ∷ []) e = refl
trimmed_stays (types.UninitThis ∷ []) e = refl
trimmed_stays (types.Uninit at ∷ []) e = refl
trimmed_stays (t ∷ u ∷ list) e = rw (trimmed_stays (u ∷ list) (sym (ends_later t u list) ∙ e)) (others t u list) where
  others : (t u : VType) (list : List VType) → before_others t (u ∷ list) ≡ t ∷ u ∷ list
  others types.Top u list = refl
  others types.Int u list = refl
  others types.Null u list = refl
  others (types.Ref name) u list = refl
  others types.UninitThis u list = refl
  others (types.Uninit at) u list = refl

top_is : (t : VType) → is_top (Some t) ≡ true → t ≡ types.Top
top_is types.Top e = refl
top_is types.Int e = absurd cc
top_is types.Null e = absurd cc
top_is (types.Ref name) e = absurd cc
top_is types.UninitThis e = absurd cc
top_is (types.Uninit at) e = absurd cc

-- a list that ends with Top, without its last type
pub trimmed_shorter : (list : List VType) → ends_with_top list ≡ true → trimmed (take (length list - 1) list) ≡ trimmed list
trimmed_shorter [] e = absurd cc
trimmed_shorter (t ∷ []) e = rw (top_is t e) refl
trimmed_shorter (t ∷ u ∷ list) e =
    let n : length (t ∷ u ∷ list) - 1 ≡ suc (length (u ∷ list) - 1) = omega arith in
    rw n (ap (before_others t) (trimmed_shorter (u ∷ list) (sym (ends_later t u list) ∙ e)))

-- ---- what is seen of types

-- a type before others, and a Top before none
any_before : (p : VType → Bool) (t : VType) (rest : List VType) → p types.Top ≡ false → list_any p (before_others t rest) ≡ list_any p (t ∷ rest)
any_before p types.Top [] e = rw e refl
any_before p types.Top (u ∷ rest) e = refl
any_before p types.Int rest e = refl
any_before p types.Null rest e = refl
any_before p (types.Ref name) rest e = refl
any_before p types.UninitThis rest e = refl
any_before p (types.Uninit at) rest e = refl

any_trimmed : (p : VType → Bool) (list : List VType) → p types.Top ≡ false → list_any p (trimmed list) ≡ list_any p list
any_trimmed p [] e = refl
any_trimmed p (t ∷ list) e = any_before p t (trimmed list) e ∙ ap (λ (b : Bool). p t || b) (any_trimmed p list e)

-- Top is no object that is not made yet
pub object_trimmed : (list : List VType) → has_object types.UninitThis (trimmed list) ≡ has_object types.UninitThis list
object_trimmed list = any_trimmed (is_same_object types.UninitThis) list refl

at_before : (t : VType) (rest : List VType) (j : ℕ) → type_at (before_others t rest) j ≡ type_at (t ∷ rest) j
at_before types.Top [] zero = refl
at_before types.Top [] (suc j) = refl
at_before types.Top (u ∷ rest) j = refl
at_before types.Int rest j = refl
at_before types.Null rest j = refl
at_before (types.Ref name) rest j = refl
at_before types.UninitThis rest j = refl
at_before (types.Uninit at) rest j = refl

pub at_trimmed : (list : List VType) (j : ℕ) → type_at (trimmed list) j ≡ type_at list j
at_trimmed [] j = refl
at_trimmed (t ∷ list) zero = at_before t (trimmed list) zero
at_trimmed (t ∷ list) (suc j) = at_before t (trimmed list) (suc j) ∙ at_trimmed list j

before_short : (t : VType) (rest : List VType) → length (before_others t rest) ≤ length rest + 1
before_short types.Top [] = omega arith
before_short types.Top (u ∷ rest) = omega arith
before_short types.Int rest = omega arith
before_short types.Null rest = omega arith
before_short (types.Ref name) rest = omega arith
before_short types.UninitThis rest = omega arith
before_short (types.Uninit at) rest = omega arith

pub trimmed_short : (list : List VType) → length (trimmed list) ≤ length list
trimmed_short [] = omega arith
trimmed_short (t ∷ list) = omega (arith, before_short t (trimmed list), trimmed_short list)

-- ---- what takes types

module _ (program : Program) where
  fit_before : (from : ℕ → VType) (j : ℕ) (t : VType) (rest : List VType) → locals_fit program from j (t ∷ rest) ≡ true → locals_fit program from j (before_others t rest) ≡ true
  fit_before from j types.Top [] e = refl
  fit_before from j types.Top (u ∷ rest) e = e
  fit_before from j types.Int rest e = e
  fit_before from j types.Null rest e = e
  fit_before from j (types.Ref name) rest e = e
  fit_before from j types.UninitThis rest e = e
  fit_before from j (types.Uninit at) rest e = e

  -- fewer locals take what more do
  pub fit_trimmed : (from : ℕ → VType) (j : ℕ) (list : List VType) → locals_fit program from j list ≡ true → locals_fit program from j (trimmed list) ≡ true
  fit_trimmed from j [] e = refl
  fit_trimmed from j (t ∷ list) e =
      let both = and_parts (assignable program (from j) t) (locals_fit program from (j + 1) list) e in
      fit_before from j t (trimmed list) (rw (both.0, fit_trimmed from (j + 1) list both.1) refl)

  pub fit_alike : (from other : ℕ → VType) (j : ℕ) (list : List VType) → ((i : ℕ) → other i ≡ from i) → locals_fit program other j list ≡ locals_fit program from j list
  fit_alike from other j [] alike = refl
  fit_alike from other j (t ∷ list) alike = rw (alike j, fit_alike from other (j + 1) list alike) refl
