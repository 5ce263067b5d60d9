-- The methods that are built in, by their rows. (docs/MACHINE.md)
use Rattle.std.specs.Prelude.{ℕ, ◌&&◌, ◌||◌, Bool, not, nat_le, nat_lt, codes, if◌then◌else◌, List, length, filter, slice_get, Option, option_map}
use Rattle.api_listing.specs.BuiltIn.{MethodRow, method_rows, is_row, thread, runnable}
use Rattle.guest_model.specs.Calls.{arity}
use Rattle.guest_model.specs.declared.builtin.Builtin.{Builtin}
use Rattle.guest_model.specs.declared.builtin.Builtin.TheVariants as builtins

abbrev pub builtin_of_row : MethodRow → Builtin
builtin_of_row row =
    if is_row (codes "java/lang/System") (codes "exit") (codes "(I)V") row then builtins.Exit
    else if is_row (codes "java/lang/String") (codes "length") (codes "()I") row then builtins.Length
    else if is_row thread (codes "start") (codes "()V") row then builtins.Start
    else if is_row thread (codes "join") (codes "()V") row then builtins.Join
    else if is_row thread (codes "run") (codes "()V") row || is_row runnable (codes "run") (codes "()V") row then builtins.Run
    else if is_row thread (codes "<init>") (codes "(Ljava/lang/Runnable;)V") row then builtins.MakeOn
    else builtins.Make

-- the method of this index in the table
abbrev pub builtin_at : ℕ → Option Builtin
builtin_at index = option_map builtin_of_row (slice_get method_rows index)

-- how many arguments it takes
abbrev pub arity_of_row : ℕ → Option ℕ
arity_of_row index = option_map (λ (row : MethodRow). arity row.2) (slice_get method_rows index)

-- whether a byte goes on with a character that another began
abbrev pub continues : ℕ → Bool
continues byte = nat_le 128 byte && nat_lt byte 192

-- how many characters a text has
abbrev pub characters : List ℕ → ℕ
characters text = length (filter (λ byte. not (continues byte)) text)
