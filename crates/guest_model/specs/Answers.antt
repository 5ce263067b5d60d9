-- Which numbers the library may give, and what it may throw. (docs/MACHINE.md)
use Rattle.std.specs.Prelude.{ℕ, ℤ, pos, ◌-ℤ◌, ◌==◌, ◌&&◌, Bool, false, int_le, List, Option, Some, None}
use Rattle.api_listing.specs.declared.descriptor.Element.{Element}
use Rattle.api_listing.specs.declared.descriptor.Element.TheVariants as elements
use Rattle.api_listing.specs.declared.descriptor.FieldType.{FieldType}
use Rattle.api_listing.specs.BuiltIn.{throwable}
use Rattle.api_listing.specs.Listing.{is_known}
use Rattle.bytecode_model.specs.declared.program.Program.{Program}
use Rattle.bytecode_model.specs.Classes.{is_below}

abbrev pub between : ℤ → ℤ → ℤ → Bool
between low high n = int_le low n && int_le n high

-- the numbers of a type
abbrev pub is_number_of : Element → ℤ → Bool
is_number_of elements.Boolean n = between (pos 0) (pos 1) n
is_number_of elements.Byte n = between (pos 0 -ℤ pos 128) (pos 127) n
is_number_of elements.Char n = between (pos 0) (pos 65535) n
is_number_of elements.Short n = between (pos 0 -ℤ pos 32768) (pos 32767) n
is_number_of elements.Int n = between (pos 0 -ℤ pos 2147483648) (pos 2147483647) n
is_number_of (elements.Class name) n = false

-- the number is one of the result's type, if there is a result
abbrev pub fits_number : Option FieldType → ℤ → Bool
fits_number None n = false
fits_number (Some t) n = (t.dimensions == 0) && is_number_of t.element n

-- The library throws objects of its classes, listed or built in.
abbrev pub may_throw : Program → List ℕ → Bool
may_throw program class = is_known program.listing.classes class && is_below program class throwable
