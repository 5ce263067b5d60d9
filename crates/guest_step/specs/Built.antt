-- What a built-in method does on an object. (docs/MACHINE.md)
use Rattle.std.specs.Prelude.{[], ◌∷◌, Option, None, pos}
use Rattle.insn_codec.specs.declared.shape.How.{How}
use Rattle.bytecode_model.specs.declared.program.Program.{Program}
use Rattle.guest_heap.specs.declared.value.Value.{Value}
use Rattle.guest_heap.specs.declared.value.Value.TheVariants as values
use Rattle.guest_model.specs.declared.machine.Machine.{Machine}
use Rattle.guest_model.specs.declared.builtin.Builtin.{Builtin}
use Rattle.guest_model.specs.declared.builtin.Builtin.TheVariants as builtins
use Rattle.guest_model.specs.Builtins.{characters}
use Rattle.guest_model.specs.Calling.{Calling, aims, goes_past, joins, runs_object, starts}
use Rattle.guest_model.specs.Changes.{Change, world_of}
use Rattle.guest_model.specs.Seen.{string_of}

-- the call leaves the number of the text's characters
abbrev pub tells_length : Program → Machine → Calling → Value → Option Change
tells_length program machine c on = goes_past (world_of machine) c (values.Int (pos (characters (string_of program machine.heap on))) ∷ [])

-- what a built-in method does on an object
abbrev pub built_on : Program → Machine → Calling → How → Value → Builtin → Option Change
built_on program machine c how on builtins.Make = None
built_on program machine c how on builtins.MakeOn = aims (world_of machine) c on
built_on program machine c how on builtins.Start = starts program machine c on
built_on program machine c how on builtins.Run = runs_object program (world_of machine) c how on
built_on program machine c how on builtins.Join = joins machine c on
built_on program machine c how on builtins.Exit = None
built_on program machine c how on builtins.Length = tells_length program machine c on
