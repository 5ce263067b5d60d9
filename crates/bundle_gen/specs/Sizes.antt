-- How many bytes class files have. (docs/GENERATED.md)
use Rattle.std.specs.Prelude.{ℕ, ◌+◌, List, [], ◌∷◌, length}
use Rattle.class_codec.specs.declared.tree.ClassFile.{ClassFile}
use Rattle.class_codec.specs.Encoding.{encoding}

-- the bytes of class files in all
unfoldable pub bytes_of : List ClassFile → ℕ
bytes_of [] = 0
bytes_of (file ∷ files) = length (encoding file) + bytes_of files
