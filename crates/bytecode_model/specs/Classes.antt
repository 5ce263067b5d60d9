-- The classes of a linked program, upwards. (docs/LINKING.md)
use Rattle.std.specs.Prelude.{ℕ, Bool, false, bytes_eq, List, ◌++◌, length, map}
use Rattle.std.specs.List.{list_any}
use Rattle.std.specs.Option.{option_map_or}
use Rattle.api_listing.specs.declared.types.ListedClass.{ListedClass}
use Rattle.api_listing.specs.Nearest.{class_named, upwards}
use Rattle.bytecode_model.specs.declared.program.LinkedClass.{LinkedClass}
use Rattle.bytecode_model.specs.declared.program.Program.{Program}
use Rattle.bytecode_model.specs.Heads.{head_of}

-- the classes of the listing, and then the given ones
abbrev pub classes_of : Program → List ListedClass
classes_of program = program.listing.classes ++ map (λ (c : LinkedClass). head_of c.file) program.classes

-- the class is of this name, or one of its superclasses is
abbrev pub is_below : Program → List ℕ → List ℕ → Bool
is_below program class above = list_any (λ (c : ListedClass). bytes_eq c.name above) (upwards (length (classes_of program)) (classes_of program) class)

abbrev pub is_interface : Program → List ℕ → Bool
is_interface program name = option_map_or (λ (c : ListedClass). c.is_interface) (class_named (classes_of program) name) false
