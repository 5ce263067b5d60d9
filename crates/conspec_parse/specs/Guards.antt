-- Guards: atoms over the variables, the arguments and the result. (docs/POLICIES.md)
use Rattle.std.specs.Prelude.{◌||◌, not, ℕ, ◌+◌, ℤ, pos, neg_ℤ, Bool, List, [], ◌∷◌, ◌++◌, length, drop, codes, nat_le, nat_lt, Option, Some, None, ok_or, Ok, if◌then◌else◌}
use Rattle.mon_base.specs.Reading.{◌>>=◌, need}
use Rattle.conspec_tokens.specs.declared.token.Token.{Token}
use Rattle.conspec_tree.specs.declared.types.Rel.{Rel}
use Rattle.conspec_tree.specs.declared.types.Rel.TheVariants as rels
use Rattle.conspec_tree.specs.declared.types.Atom.{Atom}
use Rattle.conspec_tree.specs.Kinds.{is_truth, is_number, is_equality}
use Rattle.conspec_parse.specs.declared.fault.PolicyFault.TheVariants.{Name, Kind as WrongKind, Range, Limit}
use Rattle.conspec_parse.specs.Forms.{Parsed, following, name_at, number_at, taken, each}
use Rattle.conspec_tokens.specs.Front.{front_at, is_next}
use Rattle.conspec_parse.specs.Scope.{Scope, base_named}

-- ---- atoms

abbrev pub next_rel : List Token → Option Rel
next_rel tokens =
    if is_next (codes "==") tokens then Some rels.Eq
    else if is_next (codes "!=") tokens then Some rels.Ne
    else if is_next (codes "<") tokens then Some rels.Lt
    else if is_next (codes "<=") tokens then Some rels.Le
    else if is_next (codes ">") tokens then Some rels.Gt
    else if is_next (codes ">=") tokens then Some rels.Ge
    else None

-- `true` or `false`, where a truth value may stand
unfoldable pub truth_value : ℕ → Bool → List Token → Parsed ℤ
truth_value value truth tokens = do
  fits ← need truth (WrongKind (front_at tokens))
  Ok (pos value, drop 1 tokens)

-- a number below zero of 32 bits, where a number may stand
unfoldable pub negative_at : Bool → List Token → Parsed ℤ
negative_at truth tokens = do
  fits ← need (not truth) (WrongKind (front_at tokens))
  number ← number_at (drop 1 tokens)
  ranged ← need (nat_le number.0 2147483648) (Range (front_at tokens))
  Ok (neg_ℤ (pos number.0), number.1)

unfoldable pub positive_at : Bool → List Token → Parsed ℤ
positive_at truth tokens = do
  number ← number_at tokens
  fits ← need (not truth) (WrongKind (front_at tokens))
  ranged ← need (nat_lt number.0 2147483648) (Range (front_at tokens))
  Ok (pos number.0, number.1)

-- a constant for a bool or for a number
abbrev pub constant_at : Bool → List Token → Parsed ℤ
constant_at truth tokens =
    if is_next (codes "true") tokens then truth_value 1 truth tokens
    else if is_next (codes "false") tokens then truth_value 0 truth tokens
    else if is_next (codes "-") tokens then negative_at truth tokens
    else positive_at truth tokens

-- an atom, where there is room for one
unfoldable pub atom_at : Scope → Bool → List Token → Parsed Atom
atom_at scope room tokens = do
  name ← name_at tokens
  base ← ok_or (base_named scope name.0) (Name (front_at tokens))
  asked ← need (is_number base.1) (WrongKind (front_at tokens))
  few ← need room (Limit (front_at tokens))
  rel ← taken (next_rel name.1) name.1
  fits ← need (not (is_truth base.1) || is_equality rel.0) (WrongKind (front_at name.1))
  value ← constant_at (is_truth base.1) rel.1
  Ok (record { base = base.0; rel = rel.0; value = value.0 }, value.1)

-- another of at most 16 atoms
unfoldable pub next_atom : Scope → List Atom → List Token → Parsed (List Atom)
next_atom scope atoms tokens = do
  both ← following (codes "&&") tokens
  atom ← atom_at scope (nat_lt (length atoms) 16) both
  Ok (atoms ++ atom.0 ∷ [], atom.1)

unfoldable pub no_atoms : Bool → List Token → Parsed (List Atom)
no_atoms room tokens = do
  few ← need room (Limit (front_at tokens))
  Ok ([], drop 1 tokens)

unfoldable pub atoms_at : Scope → Bool → List Token → Parsed (List Atom)
atoms_at scope room tokens = do
  first ← atom_at scope room tokens
  each (is_next (codes "&&")) (next_atom scope) (first.0 ∷ []) first.1

-- atoms that are to hold together, where there is room for a branch: none for `true`
abbrev pub conj_at : Scope → Bool → List Token → Parsed (List Atom)
conj_at scope room tokens = if is_next (codes "true") tokens then no_atoms room tokens else atoms_at scope room tokens

-- another of at most 64 branches, of which so many stand before the guard
unfoldable pub next_conj : Scope → ℕ → List (List Atom) → List Token → Parsed (List (List Atom))
next_conj scope before conjs tokens = do
  either ← following (codes "||") tokens
  conj ← conj_at scope (nat_lt (before + length conjs) 64) either
  Ok (conjs ++ conj.0 ∷ [], conj.1)

unfoldable pub conjs_at : Scope → ℕ → List Token → Parsed (List (List Atom))
conjs_at scope before tokens = do
  first ← conj_at scope (nat_lt before 64) tokens
  each (is_next (codes "||")) (next_conj scope before) (first.0 ∷ []) first.1
