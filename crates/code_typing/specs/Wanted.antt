-- What each name of a want means. (docs/TYPING.md)
use Rattle.bytecode_model.specs.declared.program.Program.{Program}
use Rattle.code_typing.specs.declared.wanted.Wanted.{Wanted}
use Rattle.code_typing.specs.declared.wanted.Wanted.TheVariants as wanted
use Rattle.bytecode_model.specs.Wants.{Want, is_number, of_kind, is_made, is_array_type, to_array, to_item, to_class, to_described}

abbrev pub want_of : Program → Wanted → Want
want_of program wanted.Number = is_number
want_of program (wanted.Kind kind) = of_kind kind
want_of program wanted.Made = is_made
want_of program wanted.Array = is_array_type
want_of program (wanted.Items item) = to_array program item
want_of program (wanted.Item item) = to_item program item
want_of program (wanted.Class name) = to_class program name.now
want_of program (wanted.Described desc) = to_described program desc.now
