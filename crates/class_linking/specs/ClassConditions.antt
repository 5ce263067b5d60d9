-- The conditions that each class meets, in their order. (The Java Virtual Machine Specification, section 5.3)
use Rattle.std.specs.Prelude.{Bool, not, List, [], ◌∷◌, Ok}
use Rattle.mon_base.specs.Reading.{◌>>=◌, need}
use Rattle.class_codec.specs.declared.tree.ClassFile.{ClassFile}
use Rattle.api_listing.specs.declared.types.ListedClass.{ListedClass}
use Rattle.api_listing.specs.Listing.{is_known}
use Rattle.api_listing.specs.Words.{is_class_name}
use Rattle.class_linking.specs.declared.fault.LinkFault.TheVariants as faults
use Rattle.bytecode_model.specs.declared.program.Side.{Side}
use Rattle.class_linking.specs.Fault.{Linked}
use Rattle.bytecode_model.specs.Heads.{head_of}
use Rattle.bytecode_model.specs.Conditions.{is_free, has_supers}

-- the conditions of a class of a file, whose name is taken or not
abbrev pub class_linked : Side → List ListedClass → Bool → ListedClass → ClassFile → Linked (Unit {0})
class_linked side heads is_taken c file = do
  named ← need (is_class_name c.name) (faults.Name c.name)
  once ← need (not is_taken) (faults.Twice c.name)
  free ← need (is_free side file) (faults.NameTaken c.name)
  need (has_supers heads c file.fields) (faults.SuperLeftOut c.name)

-- those of some classes, where the names of others are taken
abbrev pub classes_linked : Side → List ListedClass → List ListedClass → List ClassFile → Linked (Unit {0})
classes_linked side heads taken [] = Ok tt
classes_linked side heads taken (file ∷ files) =
    class_linked side heads (is_known taken (head_of file).name) (head_of file) file >>= λ _. classes_linked side heads (head_of file ∷ taken) files
