-- The classes of what the machine itself throws. (docs/MACHINE.md)
use Rattle.bytecode_model.specs.SearchOrder.{Name}
use Rattle.guest_model.specs.Parts.{bad_monitor, null_pointer}
use Rattle.guest_model.specs.Calling.{second_start}
use Rattle.guest_model.specs.HeapOperations.{bad_cast, bad_division, bad_item, bad_place, bad_size}
use Rattle.guest_model.specs.declared.thrown.Thrown.{Thrown}
use Rattle.guest_model.specs.declared.thrown.Thrown.TheVariants as thrown

-- ---- exceptions

-- the class of what is thrown
abbrev pub name_of : Thrown → Name
name_of thrown.NullPointer = null_pointer
name_of thrown.Division = bad_division
name_of thrown.Bounds = bad_place
name_of thrown.Item = bad_item
name_of thrown.Size = bad_size
name_of thrown.Cast = bad_cast
name_of thrown.Monitor = bad_monitor
name_of thrown.SecondStart = second_start
