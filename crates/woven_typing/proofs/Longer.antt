-- A constant pool that is longer tells at each place of the old one what it told there.
use Rattle.std.proofs.Common.{◌≡◌, ℕ, ◌<◌, true, List, ◌++◌, length, Option, Some, None, refl, sym, ap, ◌∙◌}
use Rattle.std.specs.Prelude.{slice_get}
use Rattle.std.proofs.lemmas.Option.{slice_get_within}
use Rattle.class_codec.specs.declared.pool.ConstKind.{ConstKind}
use Rattle.class_codec.specs.declared.pool.ConstKind.TheVariants as kinds
use Rattle.class_codec.specs.declared.tree.Const.{Const}
use Rattle.class_codec.specs.declared.tree.Const.TheVariants as constants
use Rattle.class_codec.specs.Fits.{IsNamed, FitsPool}
use Rattle.class_codec.specs.Pool.{is_of, is_one_of, names, text_of, utf8_at, class_name_of, class_name_at, name_and_type_of, name_and_type_at, reference_of, reference_at}
use Rattle.class_weaving.proofs.Lists.{get_left, slice_there}
use Rattle.bytecode_model.proofs.Lists.{all_get}

module _ (pool more : List Const) (fits : FitsPool pool) where
  -- the constant that an index names, of a kind
  named_one : (kind : ConstKind) (i : ℕ) → names kind pool i ≡ true → (c : Const) × (slice_get pool i ≡ Some c) × (is_of kind c ≡ true)
  unfolding names
  named_one kind i e = by (slice_get pool i) refl e
    where
      by : (o : Option Const) → slice_get pool i ≡ o → is_one_of kind o ≡ true → (c : Const) × (slice_get pool i ≡ Some c) × (is_of kind c ≡ true)
      by None is e = absurd cc
      by (Some c) is e = (c, is, e)

  still_there : (i : ℕ) (c : Const) → slice_get pool i ≡ Some c → slice_get (pool ++ more) i ≡ Some c
  still_there i c e = get_left pool more i (slice_get_within pool i c e) ∙ e

  is_named : (i : ℕ) (c : Const) → slice_get pool i ≡ Some c → IsNamed pool c
  is_named i c e = all_get (IsNamed pool) pool i c fits.named e

  text_longer : (i : ℕ) → names kinds.Utf8 pool i ≡ true → utf8_at (pool ++ more) i ≡ utf8_at pool i
  unfolding utf8_at
  text_longer i e =
      let c = named_one kinds.Utf8 i e in
      ap text_of (still_there i c.0 c.1) ∙ sym (ap text_of c.1)

  class_of : (c : Const) → IsNamed pool c → class_name_of (pool ++ more) (Some c) ≡ class_name_of pool (Some c)
  class_of (constants.Class name) h = text_longer name h
  class_of (constants.Utf8 text) h = refl
  class_of (constants.Integer n) h = refl
  class_of (constants.Float bits) h = refl
  class_of (constants.Long n) h = refl
  class_of (constants.Double bits) h = refl
  class_of (constants.Str text) h = refl
  class_of (constants.Field class name) h = refl
  class_of (constants.Method class name) h = refl
  class_of (constants.IMethod class name) h = refl
  class_of (constants.NameAndType name desc) h = refl
  class_of constants.Second h = refl

  class_longer : (i : ℕ) → names kinds.Class pool i ≡ true → class_name_at (pool ++ more) i ≡ class_name_at pool i
  unfolding class_name_at
  class_longer i e =
      let c = named_one kinds.Class i e in
      ap (class_name_of (pool ++ more)) (still_there i c.0 c.1) ∙ class_of c.0 (is_named i c.0 c.1) ∙ sym (ap (class_name_of pool) c.1)

  pair_of : (c : Const) → IsNamed pool c → name_and_type_of (pool ++ more) (Some c) ≡ name_and_type_of pool (Some c)
  pair_of (constants.NameAndType name desc) h = rw (text_longer name h.0, text_longer desc h.1) refl
  pair_of (constants.Class name) h = refl
  pair_of (constants.Utf8 text) h = refl
  pair_of (constants.Integer n) h = refl
  pair_of (constants.Float bits) h = refl
  pair_of (constants.Long n) h = refl
  pair_of (constants.Double bits) h = refl
  pair_of (constants.Str text) h = refl
  pair_of (constants.Field class name) h = refl
  pair_of (constants.Method class name) h = refl
  pair_of (constants.IMethod class name) h = refl
  pair_of constants.Second h = refl

  pair_longer : (i : ℕ) → names kinds.NameAndType pool i ≡ true → name_and_type_at (pool ++ more) i ≡ name_and_type_at pool i
  unfolding name_and_type_at
  pair_longer i e =
      let c = named_one kinds.NameAndType i e in
      ap (name_and_type_of (pool ++ more)) (still_there i c.0 c.1) ∙ pair_of c.0 (is_named i c.0 c.1) ∙ sym (ap (name_and_type_of pool) c.1)

  reference_of_one : (c : Const) → IsNamed pool c → reference_of (pool ++ more) (Some c) ≡ reference_of pool (Some c)
  reference_of_one (constants.Field class name) h = rw (class_longer class h.0, pair_longer name h.1) refl
  reference_of_one (constants.Method class name) h = rw (class_longer class h.0, pair_longer name h.1) refl
  reference_of_one (constants.IMethod class name) h = rw (class_longer class h.0, pair_longer name h.1) refl
  reference_of_one (constants.Class name) h = refl
  reference_of_one (constants.Utf8 text) h = refl
  reference_of_one (constants.Integer n) h = refl
  reference_of_one (constants.Float bits) h = refl
  reference_of_one (constants.Long n) h = refl
  reference_of_one (constants.Double bits) h = refl
  reference_of_one (constants.Str text) h = refl
  reference_of_one (constants.NameAndType name desc) h = refl
  reference_of_one constants.Second h = refl

  pub reference_longer : (i : ℕ) → i < length pool → reference_at (pool ++ more) i ≡ reference_at pool i
  unfolding reference_at
  reference_longer i lt =
      let c = slice_there pool i lt in
      ap (reference_of (pool ++ more)) (still_there i c.0 c.1) ∙ reference_of_one c.0 (is_named i c.0 c.1) ∙ sym (ap (reference_of pool) c.1)
