-- What a guard does to the variables. (docs/POLICIES.md)
use Rattle.std.specs.Prelude.{◌||◌, ◌&&◌, ◌==◌, not, ℕ, ◌+◌, ℤ, pos, neg_ℤ, Bool, true, false, List, [], ◌∷◌, ◌++◌, codes, bytes_eq, nat_le, nat_lt, int_le, Option, Some, None, ok_or, Ok, if◌then◌else◌}
use Rattle.mon_base.specs.Reading.{◌>>=◌, need}
use Rattle.conspec_tokens.specs.declared.token.Token.{Token}
use Rattle.conspec_tree.specs.declared.types.Update.{Update}
use Rattle.conspec_tree.specs.declared.types.Update.TheVariants.{Set, Add}
use Rattle.conspec_tree.specs.declared.types.Var.{Var}
use Rattle.conspec_parse.specs.declared.fault.PolicyFault.TheVariants.{Name, Kind, Range, Twice, Limit}
use Rattle.conspec_parse.specs.Forms.{Parsed, following, name_at, number_at, taken, each}
use Rattle.conspec_tokens.specs.Front.{front_at, is_next, is_name}
use Rattle.conspec_tree.specs.Updates.{is_updated, all_range_atoms}
use Rattle.conspec_tree.specs.Variables.{variable_from}
use Rattle.conspec_parse.specs.Guards.{constant_at}

-- a constant of the variable's range
unfoldable pub set_at : ℤ → ℕ → Bool → List Token → Parsed Update
set_at maxint var truth tokens = do
  value ← constant_at truth tokens
  ranged ← need (int_le (pos 0) value.0 && int_le value.0 maxint) (Range (front_at tokens))
  Ok (Set var value.0, value.1)

-- whether the first token is `-`, where it is a sign of a sum
abbrev pub next_sign : List Token → Option Bool
next_sign tokens =
    if is_next (codes "+") tokens then Some false
    else if is_next (codes "-") tokens then Some true
    else None

abbrev pub signed : Bool → ℕ → ℤ
signed false n = pos n
signed true n = neg_ℤ (pos n)

-- The variable itself, a sign and an addend, where there is room for a range atom or none is asked for.
unfoldable pub sum_at : Bool → List ℕ → ℕ → Bool → List Token → Parsed Update
sum_at room name var truth tokens = do
  same ← name_at tokens
  own ← need (bytes_eq same.0 name) (Name (front_at tokens))
  sign ← taken (next_sign same.1) same.1
  fits ← need (not truth) (Kind (front_at same.1))
  addend ← number_at sign.1
  ranged ← need (nat_le addend.0 1000000000) (Range (front_at sign.1))
  few ← need (addend.0 == 0 || room) (Limit (front_at sign.1))
  Ok (Add var (signed sign.0 addend.0), addend.1)

abbrev pub right_at : ℤ → Bool → List ℕ → ℕ × Bool → List Token → Parsed Update
right_at maxint room name var tokens =
    if is_name tokens then sum_at room name var.0 var.1 tokens else set_at maxint var.0 var.1 tokens

-- An update more, of a variable that is not updated yet. The longest branch has so many atoms of its own, and at most 16 with the
-- range atoms of the updates.
unfoldable pub update_at : List Var → ℤ → ℕ → List Update → List Token → Parsed (List Update)
update_at vars maxint atoms updates tokens = do
  name ← name_at tokens
  var ← ok_or (variable_from 0 vars name.0) (Name (front_at tokens))
  once ← need (not (is_updated updates var.0)) (Twice (front_at tokens))
  equals ← following (codes "=") name.1
  update ← right_at maxint (nat_lt (atoms + all_range_atoms updates) 16) name.0 var equals
  ended ← following (codes ";") update.1
  Ok (updates ++ update.0 ∷ [], ended)

-- the updates between braces
unfoldable pub block_at : List Var → ℤ → ℕ → List Token → Parsed (List Update)
block_at vars maxint atoms tokens = do
  opened ← following (codes "{") tokens
  updates ← each is_name (update_at vars maxint atoms) [] opened
  closed ← following (codes "}") updates.1
  Ok (updates.0, closed)
