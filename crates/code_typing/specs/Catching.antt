-- What handlers take. (docs/TYPING.md)
use Rattle.std.specs.Prelude.{Bool, List}
use Rattle.std.specs.List.{list_all}
use Rattle.api_listing.specs.BuiltIn.{throwable}
use Rattle.bytecode_model.specs.declared.program.Handler.{Handler}
use Rattle.bytecode_model.specs.declared.program.Program.{Program}
use Rattle.bytecode_model.specs.Classes.{is_below}
use Rattle.bytecode_model.specs.Rules.{class_caught}

-- The handler takes what may be thrown: its class is Throwable or below it.
abbrev pub takes_thrown : Program → Handler → Bool
takes_thrown program handler = is_below program (class_caught handler) throwable

-- Each of the handlers does.
abbrev pub all_take_thrown : Program → List Handler → Bool
all_take_thrown program handlers = list_all (takes_thrown program) handlers
