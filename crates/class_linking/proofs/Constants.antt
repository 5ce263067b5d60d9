-- What constants of a kind are.
use Rattle.std.proofs.Common.{◌≡◌, ℕ, true, List, Option, Some, None, refl}
use Rattle.class_codec.specs.declared.pool.ConstKind.{ConstKind}
use Rattle.class_codec.specs.declared.pool.ConstKind.TheVariants as kinds
use Rattle.class_codec.specs.declared.tree.Const.{Const}
use Rattle.class_codec.specs.declared.tree.Const.TheVariants as constants
use Rattle.class_codec.specs.Pool.{is_of, is_one_of, text_of}

pub named_one : (kind : ConstKind) (o : Option Const) → is_one_of kind o ≡ true → (c : Const) × ((o ≡ Some c) × (is_of kind c ≡ true))
named_one kind None e = absurd cc
named_one kind (Some c) e = (c, (refl, e))

pub text_there : (o : Option Const) → is_one_of kinds.Utf8 o ≡ true → (text : List ℕ) × (text_of o ≡ Some text)
text_there (Some (constants.Utf8 text)) e = (text, refl)
text_there o e = absurd cc

pub is_class : (c : Const) → is_of kinds.Class c ≡ true → (name : ℕ) × (c ≡ constants.Class name)
is_class (constants.Class name) e = (name, refl)
is_class c e = absurd cc

pub is_pair : (c : Const) → is_of kinds.NameAndType c ≡ true → (name : ℕ) × (desc : ℕ) × (c ≡ constants.NameAndType name desc)
is_pair (constants.NameAndType name desc) e = (name, desc, refl)
is_pair c e = absurd cc
