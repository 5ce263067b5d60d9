-- How many bytes class files have, one file after the other.
use Rattle.std.proofs.Common.{◌≡◌, ◌+◌, ◌<◌, List, [], ◌∷◌, length, refl, ap, arith}
use Rattle.bundle_gen.specs.Sizes.{bytes_of}
use Rattle.class_codec.specs.declared.tree.ClassFile.{ClassFile}
use Rattle.class_codec.specs.Encoding.{encoding}

-- those of the first, and of the others
pub bytes_at : (file : ClassFile) (left rest : List ClassFile) → left ≡ file ∷ rest → bytes_of left ≡ length (encoding file) + bytes_of rest
unfolding bytes_of
bytes_at file left rest split = ap bytes_of split

pub bytes_none : (left : List ClassFile) → length left < 1 → bytes_of left ≡ 0
unfolding bytes_of
bytes_none [] few = refl
bytes_none (file ∷ left) few = absurd (omega (arith, few))
