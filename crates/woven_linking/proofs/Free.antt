-- What a pool names, of which no text holds the name of the tool's own class, is not named so.
use Rattle.std.proofs.Common.{◌≡◌, ◌≢◌, ℕ, zero, suc, Bool, true, false, ◌||◌, List, [], ◌∷◌, Option, Some, None, refl, sym, ap, ◌∙◌}
use Rattle.std.specs.Prelude.{slice_get}
use Rattle.std.specs.List.{list_any}
use Rattle.std.specs.Option.{option_map_or}
use Rattle.std.proofs.lemmas.Bool.{false≢true}
use Rattle.class_codec.specs.declared.tree.Const.{Const}
use Rattle.class_codec.specs.declared.tree.Const.TheVariants as constants
use Rattle.class_codec.specs.Pool.{utf8_at, text_of, class_name_at, class_name_of}
use Rattle.bytecode_model.specs.Conditions.{holds, names_own_class}
use Rattle.bytecode_model.specs.Heads.{text_at, class_at}
use Rattle.offset_patch.specs.Entries.{state_name}

-- No text of the pool holds the name.
abbrev pub IsFree : List Const → Type 0
IsFree pool = list_any names_own_class pool ≡ false

none_passes : {X : Type 0} (p : X → Bool) (xs : List X) (i : ℕ) (x : X) → list_any p xs ≡ false → slice_get xs i ≡ Some x → p x ≡ false
none_passes {X = X} p [] i x none e = absurd cc
none_passes {X = X} p (y ∷ xs) i x none e = by (p y) refl none i e (λ j. none_passes p xs j x) where
  by : (b : Bool) → p y ≡ b → (b || list_any p xs) ≡ false → (i : ℕ) → slice_get (y ∷ xs) i ≡ Some x
      → ((j : ℕ) → list_any p xs ≡ false → slice_get xs j ≡ Some x → p x ≡ false) → p x ≡ false
  by true is none i e rest = absurd (false≢true (sym none))
  by false is none zero e rest =
      let same : y ≡ x = cc in
      ap p (sym same) ∙ is
  by false is none (suc i) e rest = rest i none e

text_free_at : (pool : List Const) (o : Option Const) → ((c : Const) → o ≡ Some c → names_own_class c ≡ false) → option_map_or (λ (text : List ℕ). text) (text_of o) [] ≢ state_name
text_free_at pool None free e = absurd cc
text_free_at pool (Some (constants.Utf8 text)) free e =
    let it : holds state_name state_name ≡ false = ap (holds state_name) (sym e) ∙ free (constants.Utf8 text) refl in
    false≢true (sym it)
text_free_at pool (Some c) free e = absurd cc

pub text_free : (pool : List Const) (i : ℕ) → IsFree pool → text_at pool i ≢ state_name
unfolding utf8_at
text_free pool i free = text_free_at pool (slice_get pool i) (λ c is. none_passes names_own_class pool i c free is)

pub class_free : (pool : List Const) (i : ℕ) → IsFree pool → class_at pool i ≢ state_name
unfolding class_name_at
class_free pool i free = by (slice_get pool i) where
  by : (o : Option Const) → option_map_or (λ (text : List ℕ). text) (class_name_of pool o) [] ≢ state_name
  by None e = absurd cc
  by (Some (constants.Class name)) e = text_free pool name free e
  by (Some c) e = absurd cc
