-- The class files of a program. (docs/LINKING.md)
use Rattle.std.specs.Prelude.{ℕ, List, map}
use Rattle.class_codec.specs.declared.tree.ClassFile.{ClassFile}
use Rattle.bytecode_model.specs.declared.program.LinkedClass.{LinkedClass}
use Rattle.bytecode_model.specs.declared.program.Program.{Program}

-- the greatest number of class files
abbrev pub max_files : ℕ
max_files = 1000

-- the class files of a program
abbrev pub unlinked : Program → List ClassFile
unlinked program = map (λ (c : LinkedClass). c.file) program.classes
