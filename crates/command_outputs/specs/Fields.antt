-- How fields are encoded. (docs/PROMISES.md)
use Rattle.std.specs.Prelude.{ℕ, List, [], ◌∷◌, ◌++◌, decimal}
use Rattle.std.specs.Fmt.{signed_decimal}
use Rattle.command_outputs.specs.declared.field.Field.{Field}
use Rattle.command_outputs.specs.declared.field.Field.TheVariants.{Count, Number, Name}
use Rattle.command_outputs.specs.declared.field.Report.{Report}

-- a number and its fields
abbrev pub report : ℕ → List Field → Report
report number fields = record { number = number; fields = fields }

-- a report told in another one, after the fields of that
abbrev pub within : Report → ℕ → List Field → Report
within inner number front = report number (front ++ Count inner.number ∷ inner.fields)

abbrev pub field_text : Field → List ℕ
field_text (Count n) = decimal n
field_text (Number n) = signed_decimal n
field_text (Name name) = name

-- a space and a field
abbrev pub spaced : Field → List ℕ
spaced field = 32 ∷ field_text field

-- a space and a number that is not below zero
abbrev pub count : ℕ → List ℕ
count n = spaced (Count n)

-- a space and a name
abbrev pub word : List ℕ → List ℕ
word name = spaced (Name name)

-- each field after a space
abbrev pub all_spaced : List Field → List ℕ
all_spaced [] = []
all_spaced (field ∷ fields) = spaced field ++ all_spaced fields
