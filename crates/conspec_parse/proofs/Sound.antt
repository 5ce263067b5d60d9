-- Every policy that is read keeps the limits and ranges, and what its parts name is there: the head and the guards.
use Rattle.std.proofs.Common.{◌≡◌, ◌≢◌, ℕ, zero, suc, ◌+◌, ◌<◌, ◌≤◌, ℤ, pos, Bool, true, false, cond, List, [], ◌∷◌, ◌++◌, length, drop, get_or, map, Option, Some, None, refl, sym, ◌∙◌, ap, subst, arith, length-append}
use Rattle.std.specs.Prelude.{◌≤ℤ◌, not, bytes_eq, codes, nat_lt, nat_le, int_le, slice_get, AllPairs, ◌||◌, ◌&&◌}
use Rattle.std.specs.List.{AllByRecursion}
use Rattle.std.specs.Option.{option_or, option_map}
use Rattle.std.proofs.lemmas.Bool.{ltb-true, and_parts, not-true, or_parts}
use Rattle.std.proofs.lemmas.Bool.Decides.{nat_tests, not_from_Decides}
use Rattle.std.proofs.lemmas.Int.{ints}
use Rattle.std.proofs.lemmas.Option.{slice_get_within}
use Rattle.std.proofs.lemmas.Slice.Eq.{bytes_eq-Decides}
use Rattle.std.proofs.lemmas.List.Quantifiers.{all_pairs_push}
use Rattle.conspec_tokens.specs.declared.token.Token.{Token}
use Rattle.conspec_tree.specs.declared.types.Atom.{Atom}
use Rattle.conspec_tree.specs.declared.types.Base.{Base}
use Rattle.conspec_tree.specs.declared.types.Base.TheVariants as bases
use Rattle.conspec_tree.specs.declared.types.Kind.{Kind}
use Rattle.conspec_tree.specs.declared.types.Var.{Var}
use Rattle.conspec_parse.specs.declared.signature.Param.{Param}
use Rattle.conspec_parse.specs.declared.fault.PolicyFault.TheVariants.{Syntax, Name, Kind as WrongKind, Range, Twice, Limit}
use Rattle.conspec_tokens.specs.Front.{front_at, is_next}
use Rattle.conspec_parse.specs.Forms.{following, name_at, number_at, taken, is_short}
use Rattle.conspec_parse.specs.Head.{header_at, truth_at, count_at, first_at, begins_variable, variable_at, variables_at}
use Rattle.conspec_tree.specs.Variables.{variable_from, is_variable}
use Rattle.conspec_parse.specs.Methods.{is_named}
use Rattle.conspec_parse.specs.Scope.{Scope, as_variable, argument_from, result_named, base_named}
use Rattle.conspec_tree.specs.Kinds.{is_truth, is_number}
use Rattle.conspec_parse.specs.Guards.{next_rel, constant_at, atom_at, next_atom, no_atoms, atoms_at, conj_at, next_conj, conjs_at}
use Rattle.conspec_tree.specs.Kinds.{is_equality}
use Rattle.conspec_tree.specs.Tree.{IsInRange, Askable, IsNumber, IsBase, AreAtoms}
use Rattle.conspec_parse.proofs.Made.{Makes, done, then, tested, either, failed, any, given, said, each_makes}

-- ---- lists and tests

pub all_more : {X : Type 0} (P : X → Type 0) (xs : List X) (x : X) → AllByRecursion P xs → P x → AllByRecursion P (xs ++ x ∷ [])
all_more P [] x all is = (is, tt)
all_more P (y ∷ xs) x all is = (all.0, all_more P xs x all.1 is)

pub no_pairs : {X : Type 0} (R : X → X → Type 0) → AllPairs R []
no_pairs R i j d lt within = absurd (omega arith)

some_is : {A : Type 0} (x y : A) → Some x ≡ Some y → x ≡ y
some_is x y e = cc

pub room_for_one : {X : Type 0} (xs : List X) (x : X) (most : ℕ) → nat_lt (length xs) most ≡ true → length (xs ++ x ∷ []) ≤ most
room_for_one xs x most few =
    let lt : length xs < most = ltb-true _ _ few in
    omega (arith, length-append xs (x ∷ []))

-- ---- the head

abbrev pub IsMaxint : ℤ → Type 0
IsMaxint maxint = (pos 1 ≤ℤ maxint) × (maxint ≤ℤ pos 1000000000)

maxint_is : (n : ℕ) → (nat_le 1 n && nat_le n 1000000000) ≡ true → IsMaxint (pos n)
maxint_is n ranged =
    let r = and_parts (nat_le 1 n) (nat_le n 1000000000) ranged in
    let low = r.0 in
    let high = r.1 in
    (grind (arith, nat_tests, ints), grind (arith, nat_tests, ints))

pub header_sound : (tokens : List Token) → Makes (header_at tokens) (λ r. IsMaxint r.0)
unfolding header_at
header_sound tokens =
    then _ (any (following (codes "MAXINT") tokens)) λ number a.
    then _ (any (number_at number)) λ maxint b.
    tested (nat_le 1 maxint.0 && nat_le maxint.0 1000000000) (Range (front_at number)) _ λ ranged.
    then _ (any (following (codes "SCOPE") maxint.1)) λ scope c.
    then _ (any (following (codes "Session") scope)) λ session d.
    then _ (any (following (codes "SECURITY") session)) λ security e.
    then _ (any (following (codes "STATE") security)) λ state f.
    done (pos maxint.0, state) (maxint_is maxint.0 ranged)

truth_sound : (maxint : ℤ) (tokens : List Token) → Makes (truth_at tokens) (λ r. IsInRange maxint true r.0)
unfolding truth_at
truth_sound maxint tokens =
    either (is_next (codes "true") tokens) _ _ (λ holds. done (pos 1, drop 1 tokens) (record { low = omega (arith, ints); high = omega (arith, ints) })) λ fails.
    either (is_next (codes "false") tokens) _ _ (λ holds. done (pos 0, drop 1 tokens) (record { low = omega (arith, ints); high = omega (arith, ints) })) λ fails_too.
    failed (Syntax (front_at tokens))

count_sound : (maxint : ℤ) (tokens : List Token) → Makes (count_at maxint tokens) (λ r. IsInRange maxint false r.0)
unfolding count_at
count_sound maxint tokens =
    then _ (any (number_at tokens)) λ number a.
    tested (int_le (pos number.0) maxint) (Range (front_at tokens)) _ λ ranged.
    done (pos number.0, number.1) (record { low = omega (arith, ints); high = grind (arith, ints) })

first_sound : (maxint : ℤ) (is_bool : Bool) (tokens : List Token) → Makes (first_at maxint is_bool tokens) (λ r. IsInRange maxint is_bool r.0)
first_sound maxint true tokens = truth_sound maxint tokens
first_sound maxint false tokens = count_sound maxint tokens

pub record AreVars (maxint : ℤ) (vars : List Var) : Type 0 where
  pub few : length vars ≤ 16
  pub ranged : AllByRecursion (λ v. IsInRange maxint v.is_bool v.first) vars
  pub names : AllPairs (λ v w. v.name ≢ w.name) vars

unnamed : (vars : List Var) (name : List ℕ) → is_variable vars name ≡ false → (k : ℕ) (d : Var) → k < length vars → (get_or vars k d).name ≢ name
unnamed [] name fails k d lt = absurd (omega arith)
unnamed (v ∷ vars) name fails zero d lt =
    not_from_Decides _ (bytes_eq-Decides v.name name) (or_parts (bytes_eq v.name name) (is_variable vars name) fails).0
unnamed (v ∷ vars) name fails (suc k) d lt =
    unnamed vars name (or_parts (bytes_eq v.name name) (is_variable vars name) fails).1 k d (omega arith)

more_vars : (maxint : ℤ) (vars : List Var) (v : Var) → nat_lt (length vars) 16 ≡ true → not (is_variable vars v.name) ≡ true
    → IsInRange maxint v.is_bool v.first → AreVars maxint vars → AreVars maxint (vars ++ v ∷ [])
more_vars maxint vars v few once ranged are = record {
  few = room_for_one vars v 16 few;
  ranged = all_more (λ (v : Var). IsInRange maxint v.is_bool v.first) vars v are.ranged ranged;
  names = all_pairs_push (λ (v w : Var). v.name ≢ w.name) vars v are.names (unnamed vars v.name (not-true _ once));
}

variable_sound : (maxint : ℤ) (vars : List Var) (tokens : List Token) → AreVars maxint vars → Makes (variable_at maxint vars tokens) (λ r. AreVars maxint r.0)
unfolding variable_at
variable_sound maxint vars tokens are =
    tested (nat_lt (length vars) 16) (Limit (front_at tokens)) _ λ few.
    then _ (any (name_at (drop 1 tokens))) λ name a.
    tested (not (is_variable vars name.0)) (Twice (front_at (drop 1 tokens))) _ λ once.
    tested (is_short name.0) (Limit (front_at (drop 1 tokens))) _ λ short.
    then _ (any (following (codes "=") name.1)) λ equals b.
    then _ (first_sound maxint (is_next (codes "bool") tokens) equals) λ first ranged.
    then _ (any (following (codes ";") first.1)) λ ended c.
    done (vars ++ (record { name = name.0; is_bool = is_next (codes "bool") tokens; first = first.0 }) ∷ [], ended) (more_vars maxint vars (record { name = name.0; is_bool = is_next (codes "bool") tokens; first = first.0 }) few once ranged are)

pub variables_sound : (maxint : ℤ) (tokens : List Token) → Makes (variables_at maxint tokens) (λ r. AreVars maxint r.0)
variables_sound maxint tokens =
    each_makes begins_variable (variable_at maxint) (λ vars left. AreVars maxint vars) (λ vars left goes are. variable_sound maxint vars left are)
    [] tokens (record { few = omega arith; ranged = tt; names = no_pairs (λ (v w : Var). v.name ≢ w.name) })

-- ---- names

pub record IsThere (vars : List Var) (from : ℕ) (found : ℕ × Bool) : Type 0 where
  pub index : ℕ
  pub variable : Var
  pub counted : found.0 ≡ from + index
  pub there : slice_get vars index ≡ Some variable
  pub kind : variable.is_bool ≡ found.1

pub variable_there : (i : ℕ) (vars : List Var) (name : List ℕ) (found : ℕ × Bool) → variable_from i vars name ≡ Some found → IsThere vars i found
variable_there i [] name found e = absurd cc
variable_there i (v ∷ vars) name found e = by (bytes_eq v.name name) e (variable_there (i + 1) vars name found) where
  by : (same : Bool) → cond same (Some (i, v.is_bool)) (variable_from (i + 1) vars name) ≡ Some found
      → (variable_from (i + 1) vars name ≡ Some found → IsThere vars (i + 1) found) → IsThere (v ∷ vars) i found
  by true is others =
      let made : ℕ × Bool = (i, v.is_bool) in
      let one : made ≡ found = some_is made found is in
      let first : i ≡ found.0 = ap (λ (x : ℕ × Bool). x.0) one in
      record { index = 0; variable = v; counted = omega arith; there = refl; kind = ap (λ (x : ℕ × Bool). x.1) one }
  by false is others =
      let later = others is in
      let far = later.counted in
      record { index = suc later.index; variable = later.variable; counted = omega arith; there = later.there; kind = later.kind }

-- What may be asked is what the scope names: the arguments, and the result where it has a name.
pub record Asks (scope : Scope) (askable : Askable) : Type 0 where
  pub args : askable.args ≡ map (λ (p : Param). p.kind) scope.args
  pub result : (name : List ℕ) → scope.returned ≡ Some name → askable.result ≡ Some scope.kind

-- the arguments, and a result of the scope's kind
abbrev pub all_asked : Scope → Askable
all_asked scope = record { args = map (λ (p : Param). p.kind) scope.args; result = Some scope.kind }

pub asks_all : (scope : Scope) → Asks scope (all_asked scope)
asks_all scope = record { args = refl; result = λ name has. refl }

base_of_variable : (vars : ℕ) (askable : Askable) (found : ℕ × Bool) → found.0 < vars → IsBase vars askable (as_variable found).0
base_of_variable vars askable found lt = by found.1 where
  by : (b : Bool) → IsBase vars askable (as_variable (found.0, b)).0
  by true = lt
  by false = lt

record IsArgument (params : List Param) (from : ℕ) (found : Base × Kind) : Type 0 where
  index : ℕ
  base : found.0 ≡ bases.Arg (from + index)
  there : slice_get (map (λ (p : Param). p.kind) params) index ≡ Some found.1

argument_there : (i : ℕ) (params : List Param) (name : List ℕ) (found : Base × Kind) → argument_from i params name ≡ Some found → IsArgument params i found
argument_there i [] name found e = absurd cc
argument_there i (p ∷ params) name found e = by (is_named p.name name) e (argument_there (i + 1) params name found) where
  by : (same : Bool) → cond same (Some (bases.Arg i, p.kind)) (argument_from (i + 1) params name) ≡ Some found
      → (argument_from (i + 1) params name ≡ Some found → IsArgument params (i + 1) found) → IsArgument (p ∷ params) i found
  by true is others =
      let made : Base × Kind = (bases.Arg i, p.kind) in
      let one : made ≡ found = some_is made found is in
      let here : i ≡ i + 0 = omega arith in
      record { index = 0; base = sym (ap (λ (x : Base × Kind). x.0) one) ∙ ap bases.Arg here; there = ap (λ (x : Base × Kind). Some x.1) one }
  by false is others =
      let later = others is in
      let far : i + 1 + later.index ≡ i + suc later.index = omega arith in
      record { index = suc later.index; base = later.base ∙ ap bases.Arg far; there = later.there }

abbrev pub IsFound : Scope → Askable → Base × Kind → Type 0
IsFound scope askable found = IsBase (length scope.vars) askable found.0

pub base_sound : (scope : Scope) (askable : Askable) (name : List ℕ) (found : Base × Kind) → Asks scope askable → is_number found.1 ≡ true
    → base_named scope name ≡ Some found → IsFound scope askable found
base_sound scope askable name found asks numeric e = by (variable_from 0 scope.vars name) refl (argument_from 0 scope.args name) refl e where
  argument : (a : Base × Kind) → is_number a.1 ≡ true → IsArgument scope.args 0 a → IsFound scope askable a
  argument a number is =
      let there : slice_get askable.args is.index ≡ Some a.1 = rw asks.args is.there in
      let asked : IsNumber (slice_get askable.args is.index) = rw there number in
      let first : 0 + is.index ≡ is.index = omega arith in
      rw (is.base, first) asked

  named : (same : Bool) → askable.result ≡ Some scope.kind → cond same (Some (bases.Result, scope.kind)) None ≡ Some found → IsFound scope askable found
  named true has is =
      let made : Base × Kind = (bases.Result, scope.kind) in
      let one : made ≡ found = some_is made found is in
      let asked : IsNumber askable.result = rw has (ap (λ (x : Base × Kind). is_number x.1) one ∙ numeric) in
      subst (IsFound scope askable) one asked
  named false has is = absurd cc

  result : (word : Option (List ℕ)) → scope.returned ≡ word → cond (is_named word name) (Some (bases.Result, scope.kind)) None ≡ Some found → IsFound scope askable found
  result None which is = absurd cc
  result (Some word) which is = named (bytes_eq word name) (asks.result word which) is

  by : (v : Option (ℕ × Bool)) → variable_from 0 scope.vars name ≡ v → (a : Option (Base × Kind)) → argument_from 0 scope.args name ≡ a
      → option_or (option_map as_variable v) (option_or a (result_named scope name)) ≡ Some found → IsFound scope askable found
  by (Some v) read a other is =
      let there = variable_there 0 scope.vars name v read in
      let low : there.index < length scope.vars = slice_get_within scope.vars there.index there.variable there.there in
      let same = there.counted in
      subst (IsFound scope askable) (some_is (as_variable v) found is) (base_of_variable (length scope.vars) askable v (omega arith))
  by None read (Some a) other is =
      let one : a ≡ found = some_is a found is in
      subst (IsFound scope askable) one (argument a (ap (λ (x : Base × Kind). is_number x.1) one ∙ numeric) (argument_there 0 scope.args name a other))
  by None read None other is = result scope.returned refl is

-- ---- atoms and branches

pub record IsConj (scope : Scope) (askable : Askable) (conj : List Atom) : Type 0 where
  pub few : length conj ≤ 16
  pub atoms : AreAtoms (length scope.vars) askable conj

pub record AreConjs (scope : Scope) (askable : Askable) (before : ℕ) (read : List (List Atom)) : Type 0 where
  pub few : before + length read ≤ 64
  pub conjs : AllByRecursion (IsConj scope askable) read

module _ (scope : Scope) (askable : Askable) (asks : Asks scope askable) where
  atom_sound : (room : Bool) (tokens : List Token) → Makes (atom_at scope room tokens) (λ r. (room ≡ true) × IsBase (length scope.vars) askable r.0.base)
  unfolding atom_at
  atom_sound room tokens =
      then _ (any (name_at tokens)) λ name a.
      then _ (given (base_named scope name.0) (Name (front_at tokens))) λ base named.
      tested (is_number base.1) (WrongKind (front_at tokens)) _ λ number.
      tested room (Limit (front_at tokens)) _ λ few.
      then _ (any (taken (next_rel name.1) name.1)) λ rel b.
      tested (not (is_truth base.1) || is_equality rel.0) (WrongKind (front_at name.1)) _ λ fits.
      then _ (any (constant_at (is_truth base.1) rel.1)) λ value c.
      done (record { base = base.0; rel = rel.0; value = value.0 }, value.1) (few, base_sound scope askable name.0 base asks number named)

  next_atom_sound : (atoms : List Atom) (tokens : List Token) → IsConj scope askable atoms → Makes (next_atom scope atoms tokens) (λ r. IsConj scope askable r.0)
  unfolding next_atom
  next_atom_sound atoms tokens are =
      then _ (any (following (codes "&&") tokens)) λ rest a.
      then _ (atom_sound (nat_lt (length atoms) 16) rest) λ atom is.
      done (atoms ++ atom.0 ∷ [], atom.1) (record { few = room_for_one atoms atom.0 16 is.0; atoms = all_more (λ (a : Atom). IsBase (length scope.vars) askable a.base) atoms atom.0 are.atoms is.1 })

  atoms_sound : (room : Bool) (tokens : List Token) → Makes (atoms_at scope room tokens) (λ r. (room ≡ true) × IsConj scope askable r.0)
  unfolding atoms_at
  atoms_sound room tokens =
      then _ (atom_sound room tokens) λ first is.
      said (each_makes (is_next (codes "&&")) (next_atom scope) (λ atoms left. IsConj scope askable atoms) (λ atoms left goes are. next_atom_sound atoms left are)
      (first.0 ∷ []) first.1 (record { few = omega arith; atoms = (is.1, tt) })) λ r are. (is.0, are)

  none_sound : (room : Bool) (tokens : List Token) → Makes (no_atoms room tokens) (λ r. (room ≡ true) × IsConj scope askable r.0)
  unfolding no_atoms
  none_sound room tokens = tested room (Limit (front_at tokens)) _ λ few. done ([], drop 1 tokens) (few, record { few = omega arith; atoms = tt })

  conj_sound : (room : Bool) (tokens : List Token) → Makes (conj_at scope room tokens) (λ r. (room ≡ true) × IsConj scope askable r.0)
  conj_sound room tokens = either (is_next (codes "true") tokens) _ _ (λ holds. none_sound room tokens) (λ fails. atoms_sound room tokens)

  next_conj_sound : (before : ℕ) (conjs : List (List Atom)) (tokens : List Token) → AreConjs scope askable before conjs
      → Makes (next_conj scope before conjs tokens) (λ r. AreConjs scope askable before r.0)
  unfolding next_conj
  next_conj_sound before conjs tokens are =
      then _ (any (following (codes "||") tokens)) λ rest a.
      then _ (conj_sound (nat_lt (before + length conjs) 64) rest) λ conj is.
      let lt : before + length conjs < 64 = ltb-true _ _ is.0 in
      done (conjs ++ conj.0 ∷ [], conj.1) (record { few = omega (arith, length-append conjs (conj.0 ∷ [])); conjs = all_more (IsConj scope askable) conjs conj.0 are.conjs is.1 })

  pub conjs_sound : (before : ℕ) (tokens : List Token) → Makes (conjs_at scope before tokens) (λ r. AreConjs scope askable before r.0)
  unfolding conjs_at
  conjs_sound before tokens =
      then _ (conj_sound (nat_lt before 64) tokens) λ first is.
      let lt : before < 64 = ltb-true _ _ is.0 in
      each_makes (is_next (codes "||")) (next_conj scope before) (λ conjs left. AreConjs scope askable before conjs) (λ conjs left goes are. next_conj_sound before conjs left are)
      (first.0 ∷ []) first.1 (record { few = omega arith; conjs = (is.1, tt) })
