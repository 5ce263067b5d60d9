-- Which answers fit a result that is a class or an array. (docs/MACHINE.md)
use Rattle.std.specs.Prelude.{◌&&◌, ◌||◌, Bool, true, false, nat_le, List, length, Option, slice_get}
use Rattle.std.specs.Option.{option_map_or}
use Rattle.api_listing.specs.declared.events.ApiAnswer.{ApiAnswer}
use Rattle.api_listing.specs.declared.events.ApiAnswer.TheVariants as answers
use Rattle.bytecode_model.specs.declared.program.Program.{Program}
use Rattle.bytecode_model.specs.Classes.{is_below, is_interface}
use Rattle.bytecode_model.specs.SearchOrder.{Name}
use Rattle.guest_heap.specs.declared.object.Object.{Object}
use Rattle.guest_heap.specs.declared.value.Value.{Value}
use Rattle.guest_model.specs.Answering.{is_listed_class, is_no_object, is_of, takes_text}

-- what an answer gives that is no number fits a result of this class
abbrev pub object_fits : Program → List Object → Name → Option Value → List Value → ApiAnswer → Bool
object_fits program heap name receiver arguments answers.Nothing = true
object_fits program heap name receiver arguments (answers.Int n) = true
object_fits program heap name receiver arguments answers.Null = true
object_fits program heap name receiver arguments (answers.Text text) = takes_text program name && nat_le (length text) 65535
object_fits program heap name receiver arguments (answers.Fresh class) = (is_interface program name || is_below program class name) && is_listed_class program class
object_fits program heap name receiver arguments (answers.Arg i) =
    option_map_or (λ (v : Value). is_no_object v || is_of program heap v name) (slice_get arguments i) false
object_fits program heap name receiver arguments answers.Receiver = option_map_or (λ (v : Value). is_of program heap v name) receiver false
object_fits program heap name receiver arguments (answers.Throws class) = true
