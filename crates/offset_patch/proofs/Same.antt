-- Constants that are the same are one constant.
use Rattle.std.proofs.Common.{◌≡◌, ℕ, true, refl, sym, ap, ap₂, ◌&&◌}
use Rattle.std.specs.Prelude.{◌==◌}
use Rattle.std.specs.Cmp.{unsigned_Decides}
use Rattle.std.proofs.lemmas.Bool.Decides.{Decides-and, Decides-int_eq}
use Rattle.std.proofs.lemmas.Slice.Eq.{bytes_eq-Decides}
use Rattle.class_codec.specs.declared.tree.Const.{Const}
use Rattle.class_codec.specs.declared.tree.Const.TheVariants as constants
use Rattle.offset_patch.specs.declared.constants.Added.{Added}
use Rattle.offset_patch.specs.declared.constants.Added.TheVariants.{Text, Class, NameAndType, Field, Method, Integer}
use Rattle.offset_patch.specs.Added.{const_of}
use Rattle.offset_patch.specs.Entries.{same}

both_are : (make : ℕ → ℕ → Const) (a b m n : ℕ) → ((a == b) && (m == n)) ≡ true → make b n ≡ make a m
both_are make a b m n e =
    let two = (Decides-and (a == b) (m == n) (unsigned_Decides a b) (unsigned_Decides m n)).0 e in
    sym (ap₂ make two.0 two.1)

pub same_is : (c x : Const) → same c x ≡ true → x ≡ c
same_is (constants.Utf8 a) (constants.Utf8 b) e = ap constants.Utf8 (sym ((bytes_eq-Decides a b).0 e))
same_is (constants.Class a) (constants.Class b) e = ap constants.Class (sym ((unsigned_Decides a b).0 e))
same_is (constants.NameAndType a m) (constants.NameAndType b n) e = both_are constants.NameAndType a b m n e
same_is (constants.Field a m) (constants.Field b n) e = both_are constants.Field a b m n e
same_is (constants.Method a m) (constants.Method b n) e = both_are constants.Method a b m n e
same_is (constants.Integer a) (constants.Integer b) e = ap constants.Integer (sym ((Decides-int_eq a b).0 e))
same_is c x e = absurd cc

-- what may be added is the same as itself
pub same_self : (a : Added) → same (const_of a) (const_of a) ≡ true
same_self (Text a) = (bytes_eq-Decides a a).1 refl
same_self (Class a) = (unsigned_Decides a a).1 refl
same_self (NameAndType a m) = (Decides-and (a == a) (m == m) (unsigned_Decides a a) (unsigned_Decides m m)).1 (refl, refl)
same_self (Field a m) = (Decides-and (a == a) (m == m) (unsigned_Decides a a) (unsigned_Decides m m)).1 (refl, refl)
same_self (Method a m) = (Decides-and (a == a) (m == m) (unsigned_Decides a a) (unsigned_Decides m m)).1 (refl, refl)
same_self (Integer a) = (Decides-int_eq a a).1 refl
