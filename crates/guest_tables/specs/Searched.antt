-- In which classes the members of each class are looked for, by the places of these classes. (The JVM specification, section 5.4.3.).
-- (docs/MACHINE.md)
use Rattle.std.specs.Prelude.{◌≡◌, ℕ, Bool, List, [], ◌∷◌, map, filter_map, Some}
use Rattle.api_listing.specs.declared.types.ListedClass.{ListedClass}
use Rattle.bytecode_model.specs.declared.program.Program.{Program}
use Rattle.bytecode_model.specs.Classes.{classes_of}
use Rattle.bytecode_model.specs.SearchOrder.{Name, is_one_of, search_order}
use Rattle.guest_model.specs.Places.{class_index}

-- nothing where there are no names, and else what is told
abbrev pub unless_none : List Name → List ℕ → List ℕ
unless_none [] row = []
unless_none (name ∷ names) row = row

-- of a class that names interfaces itself
abbrev pub row_of : Program → ListedClass → List ℕ
row_of program class = unless_none class.interfaces (filter_map (class_index program) (search_order (classes_of program) class.name))

-- of each class
abbrev pub rows_of : Program → List (List ℕ)
rows_of program = map (row_of program) (classes_of program)

-- The answer is whether members of the class are looked for in the class that has the place.
abbrev pub TellsSearched : Program → Name → ℕ → Bool → Type 0
TellsSearched program name place answer = (other : Name) → class_index program other ≡ Some place → answer ≡ is_one_of (search_order (classes_of program) name) other
