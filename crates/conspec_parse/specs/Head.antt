-- The head of a policy and its state variables. (docs/POLICIES.md)
use Rattle.std.specs.Prelude.{ℤ, pos, ◌&&◌, ◌||◌, not, Bool, true, false, List, [], ◌∷◌, ◌++◌, length, drop, codes, nat_le, nat_lt, int_le, Ok, Err, if◌then◌else◌}
use Rattle.mon_base.specs.Reading.{◌>>=◌, need}
use Rattle.conspec_tokens.specs.declared.token.Token.{Token}
use Rattle.conspec_tree.specs.declared.types.Var.{Var}
use Rattle.conspec_tree.specs.Variables.{is_variable}
use Rattle.conspec_parse.specs.declared.fault.PolicyFault.TheVariants.{Syntax, Range, Twice, Limit}
use Rattle.conspec_parse.specs.Forms.{Parsed, following, name_at, number_at, is_short, each}
use Rattle.conspec_tokens.specs.Front.{front_at, is_next}

-- `MAXINT` and its number, `SCOPE Session SECURITY STATE`
unfoldable pub header_at : List Token → Parsed ℤ
header_at tokens = do
  number ← following (codes "MAXINT") tokens
  maxint ← number_at number
  ranged ← need (nat_le 1 maxint.0 && nat_le maxint.0 1000000000) (Range (front_at number))
  scope ← following (codes "SCOPE") maxint.1
  session ← following (codes "Session") scope
  security ← following (codes "SECURITY") session
  state ← following (codes "STATE") security
  Ok (pos maxint.0, state)

-- `true` or `false`
unfoldable pub truth_at : List Token → Parsed ℤ
truth_at tokens =
    if is_next (codes "true") tokens then Ok (pos 1, drop 1 tokens)
    else if is_next (codes "false") tokens then Ok (pos 0, drop 1 tokens)
    else Err (Syntax (front_at tokens))

-- a number from 0 to maxint
unfoldable pub count_at : ℤ → List Token → Parsed ℤ
count_at maxint tokens = do
  number ← number_at tokens
  ranged ← need (int_le (pos number.0) maxint) (Range (front_at tokens))
  Ok (pos number.0, number.1)

abbrev pub first_at : ℤ → Bool → List Token → Parsed ℤ
first_at maxint true tokens = truth_at tokens
first_at maxint false tokens = count_at maxint tokens

abbrev pub begins_variable : List Token → Bool
begins_variable tokens = is_next (codes "int") tokens || is_next (codes "bool") tokens

-- another of at most 16 variables, with a name of its own
unfoldable pub variable_at : ℤ → List Var → List Token → Parsed (List Var)
variable_at maxint vars tokens = do
  few ← need (nat_lt (length vars) 16) (Limit (front_at tokens))
  name ← name_at (drop 1 tokens)
  once ← need (not (is_variable vars name.0)) (Twice (front_at (drop 1 tokens)))
  short ← need (is_short name.0) (Limit (front_at (drop 1 tokens)))
  equals ← following (codes "=") name.1
  first ← first_at maxint (is_next (codes "bool") tokens) equals
  ended ← following (codes ";") first.1
  Ok (vars ++ (record { name = name.0; is_bool = is_next (codes "bool") tokens; first = first.0 }) ∷ [], ended)

abbrev pub variables_at : ℤ → List Token → Parsed (List Var)
variables_at maxint tokens = each begins_variable (variable_at maxint) [] tokens
