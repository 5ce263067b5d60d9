-- What indices name stays as the pool grows.
use Rattle.std.proofs.Common.{◌≡◌, ℕ, true, List, ◌++◌, Option, Some, refl, sym, ap, ◌∙◌}
use Rattle.std.specs.Prelude.{slice_get}
use Rattle.bytecode_model.specs.Heads.{text_at, class_at}
use Rattle.bytecode_model.specs.Operands.{id_at}
use Rattle.bytecode_model.proofs.Lists.{all_get}
use Rattle.class_codec.specs.declared.pool.ConstKind.TheVariants as kinds
use Rattle.class_codec.specs.declared.tree.Const.{Const}
use Rattle.class_codec.specs.declared.tree.Const.TheVariants as constants
use Rattle.class_codec.specs.Fits.{FitsPool, IsNamed}
use Rattle.class_codec.specs.Pool.{names, utf8_at, class_name_at, class_name_of, both, name_and_type_at, name_and_type_of}
use Rattle.offset_patch.proofs.PoolFits.{get_on, utf8_on}
use Rattle.class_linking.proofs.Constants.{named_one, is_class, is_pair}

pub text_on : (pool more : List Const) (i : ℕ) → names kinds.Utf8 pool i ≡ true → text_at (pool ++ more) i ≡ text_at pool i
text_on pool more i e = rw (utf8_on pool more i e) refl

class_name_on : (pool more : List Const) (i : ℕ) → FitsPool pool → names kinds.Class pool i ≡ true → class_name_at (pool ++ more) i ≡ class_name_at pool i
unfolding names class_name_at
class_name_on pool more i fits e =
    let one = named_one kinds.Class (slice_get pool i) e in
    let class = is_class one.0 one.1.1 in
    let there : slice_get pool i ≡ Some (constants.Class class.0) = one.1.0 ∙ ap Some class.1 in
    let named : IsNamed pool (constants.Class class.0) = all_get (IsNamed pool) pool i (constants.Class class.0) fits.named there in
    ap (class_name_of (pool ++ more)) (get_on pool more i (constants.Class class.0) there) ∙ utf8_on pool more class.0 named ∙ sym (ap (class_name_of pool) there)

pub class_on : (pool more : List Const) (i : ℕ) → FitsPool pool → names kinds.Class pool i ≡ true → class_at (pool ++ more) i ≡ class_at pool i
class_on pool more i fits e = rw (class_name_on pool more i fits e) refl

-- ---- names and descriptors

pub name_and_type_on : (pool more : List Const) (i : ℕ) → FitsPool pool → names kinds.NameAndType pool i ≡ true → name_and_type_at (pool ++ more) i ≡ name_and_type_at pool i
unfolding names name_and_type_at
name_and_type_on pool more i fits e =
    let one = named_one kinds.NameAndType (slice_get pool i) e in
    let m = is_pair one.0 one.1.1 in
    let c = constants.NameAndType m.0 m.1 in
    let there : slice_get pool i ≡ Some c = one.1.0 ∙ ap Some m.2 in
    let named : IsNamed pool c = all_get (IsNamed pool) pool i c fits.named there in
    ap (name_and_type_of (pool ++ more)) (get_on pool more i c there)
    ∙ ap (λ (o : Option (List ℕ)). both o (utf8_at (pool ++ more) m.1)) (utf8_on pool more m.0 named.0) ∙ ap (both (utf8_at pool m.0)) (utf8_on pool more m.1 named.1)
    ∙ sym (ap (name_and_type_of pool) there)

pub id_on : (pool more : List Const) (class member : ℕ) → FitsPool pool → names kinds.Class pool class ≡ true → names kinds.NameAndType pool member ≡ true
    → id_at (pool ++ more) class member ≡ id_at pool class member
id_on pool more class member fits c m = rw (class_on pool more class fits c, name_and_type_on pool more member fits m) refl
