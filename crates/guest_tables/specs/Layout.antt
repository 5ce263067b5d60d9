-- Where the fields of objects are. (docs/MACHINE.md)
use Rattle.std.specs.Prelude.{ℕ, ◌+◌, if◌then◌else◌, List, [], ◌∷◌, length, map, filter}
use Rattle.class_codec.specs.declared.tree.ClassFile.{ClassFile}
use Rattle.class_codec.specs.declared.tree.Member.{Member}
use Rattle.bytecode_model.specs.declared.program.LinkedClass.{LinkedClass}
use Rattle.bytecode_model.specs.declared.program.Program.{Program}
use Rattle.guest_model.specs.Layout.{fields_of, is_in_objects}
use Rattle.guest_tables.specs.declared.fields.Places.{Places}

-- of each field, and after the last, how many of the fields before it are in objects, where n were before the first
abbrev pub counts_from : ℕ → List Member → List ℕ
counts_from n [] = n ∷ []
counts_from n (member ∷ members) = n ∷ counts_from (if is_in_objects member then n + 1 else n) members

-- the same of each given class
abbrev pub counts_of : Program → List (List ℕ)
counts_of program = map (λ (c : LinkedClass). counts_from 0 c.file.fields) program.classes

-- how many fields each class has of its own in objects
abbrev pub own_count : ClassFile → ℕ
own_count file = length (filter is_in_objects file.fields)

-- how many fields the objects of the superclass of each given class have
abbrev pub begins_of : Program → List ℕ
begins_of program = map (λ (c : LinkedClass). length (fields_of program c.parent)) program.classes

-- both
abbrev pub places_of : Program → Places
places_of program = record { begins = begins_of program; counts = counts_of program }
