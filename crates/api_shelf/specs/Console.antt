-- What a console is seen as, and what it writes for a call. (docs/RUNS.md)
use Rattle.std.specs.Prelude.{ℕ, List, [], ◌∷◌, ◌++◌, bytes_eq, codes, if◌then◌else◌}
use Rattle.std.specs.Fmt.{signed_decimal}
use Rattle.api_listing.specs.declared.events.ApiCall.{ApiCall}
use Rattle.api_listing.specs.declared.events.ApiValue.{ApiValue}
use Rattle.api_listing.specs.declared.events.ApiValue.TheVariants as values

-- Where it writes to, and how many faults there were.
pub record ConsoleState (W : Type 0) : Type 0 where
  pub out : W
  pub faults : ℕ

-- a number in decimal digits, and a text in its bytes
abbrev pub value_text : ApiValue → List ℕ
value_text (values.Int n) = signed_decimal n
value_text values.Null = []
value_text (values.Text text) = text
value_text (values.Obj class at) = []
value_text (values.Class class) = []

abbrev pub first_text : List ApiValue → List ℕ
first_text [] = []
first_text (first ∷ others) = value_text first

-- what `print` and `println` are given, with the end of the line of `println`; nothing for another method
abbrev pub console_text : ApiCall → List ℕ
console_text call =
    if bytes_eq call.method.name (codes "print") then first_text call.args
    else if bytes_eq call.method.name (codes "println") then first_text call.args ++ 10 ∷ []
    else []
