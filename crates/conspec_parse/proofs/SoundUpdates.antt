-- Every policy that is read keeps the limits and ranges, and what its parts name is there: updates.
use Rattle.std.proofs.Common.{◌≡◌, ◌≢◌, ℕ, zero, suc, ◌+◌, ◌<◌, ◌≤◌, ℤ, pos, neg_ℤ, Bool, true, false, cond, List, [], ◌∷◌, ◌++◌, length, drop, get_or, Some, refl, ap, subst, ◌∙◌, arith}
use Rattle.std.specs.Prelude.{◌≤ℤ◌, not, bytes_eq, codes, nat_lt, nat_le, int_le, slice_get, AllPairs, ◌||◌, ◌&&◌, ◌==◌}
use Rattle.std.specs.List.{AllByRecursion}
use Rattle.std.specs.Ordering.{int_eq}
use Rattle.std.proofs.lemmas.Bool.{ltb-true, leb-true, eqb-true, eq-eqb, and_parts, not-true, or_parts}
use Rattle.std.proofs.lemmas.Int.{ints}
use Rattle.std.proofs.lemmas.List.Quantifiers.{all_pairs_push}
use Rattle.conspec_tokens.specs.declared.token.Token.{Token}
use Rattle.conspec_tree.specs.declared.types.Update.{Update}
use Rattle.conspec_tree.specs.declared.types.Update.TheVariants.{Set, Add}
use Rattle.conspec_tree.specs.declared.types.Var.{Var}
use Rattle.conspec_parse.specs.declared.fault.PolicyFault.TheVariants.{Name, Kind as WrongKind, Range, Twice, Limit}
use Rattle.conspec_tokens.specs.Front.{front_at, is_next, is_name}
use Rattle.conspec_parse.specs.Forms.{following, name_at, number_at, taken}
use Rattle.conspec_tree.specs.Variables.{variable_from}
use Rattle.conspec_parse.specs.Guards.{truth_value, negative_at, positive_at, constant_at}
use Rattle.conspec_tree.specs.Updates.{target, is_updated, range_atoms, all_range_atoms}
use Rattle.conspec_parse.specs.Updates.{set_at, next_sign, signed, sum_at, right_at, update_at, block_at}
use Rattle.conspec_tree.specs.Tree.{IsInRange, IsUpdateOf, IsUpdateIn}
use Rattle.conspec_parse.proofs.Made.{Makes, done, then, tested, either, any, given, each_makes}
use Rattle.conspec_parse.proofs.Sound.{all_more, no_pairs, variable_there}

-- ---- constants

-- a constant for a bool is 0 or 1
abbrev FitsTruth : Bool → ℤ → Type 0
FitsTruth truth value = truth ≡ true → value ≤ℤ pos 1

truth_value_sound : (value : ℕ) (truth : Bool) (tokens : List Token) → value ≤ 1 → Makes (truth_value value truth tokens) (λ r. FitsTruth truth r.0)
unfolding truth_value
truth_value_sound value truth tokens low = tested truth (WrongKind (front_at tokens)) _ λ fits. done (pos value, drop 1 tokens) (λ is. omega (arith, ints))

negative_sound : (truth : Bool) (tokens : List Token) → Makes (negative_at truth tokens) (λ r. FitsTruth truth r.0)
unfolding negative_at
negative_sound truth tokens =
    tested (not truth) (WrongKind (front_at tokens)) _ λ fits.
    then _ (any (number_at (drop 1 tokens))) λ number a.
    tested (nat_le number.0 2147483648) (Range (front_at tokens)) _ λ ranged.
    done (neg_ℤ (pos number.0), number.1) (λ is. let fails = not-true truth fits in absurd cc)

positive_sound : (truth : Bool) (tokens : List Token) → Makes (positive_at truth tokens) (λ r. FitsTruth truth r.0)
unfolding positive_at
positive_sound truth tokens =
    then _ (any (number_at tokens)) λ number a.
    tested (not truth) (WrongKind (front_at tokens)) _ λ fits.
    tested (nat_lt number.0 2147483648) (Range (front_at tokens)) _ λ ranged.
    done (pos number.0, number.1) (λ is. let fails = not-true truth fits in absurd cc)

constant_sound : (truth : Bool) (tokens : List Token) → Makes (constant_at truth tokens) (λ r. FitsTruth truth r.0)
constant_sound truth tokens =
    either (is_next (codes "true") tokens) _ _ (λ holds. truth_value_sound 1 truth tokens (omega arith)) λ not_true.
    either (is_next (codes "false") tokens) _ _ (λ holds. truth_value_sound 0 truth tokens (omega arith)) λ not_false.
    either (is_next (codes "-") tokens) _ _ (λ holds. negative_sound truth tokens) λ not_minus.
    positive_sound truth tokens

-- ---- right sides

-- the update of the variable at the index, with at most one range atom, and none where there is not room
pub record IsRightOf (maxint : ℤ) (v : Var) (var : ℕ) (room : Bool) (update : Update) : Type 0 where
  pub of : target update ≡ var
  pub fits : IsUpdateOf maxint v update
  pub one : range_atoms update ≤ 1
  pub none : room ≡ false → range_atoms update ≡ 0

in_range : (maxint : ℤ) (truth : Bool) (value : ℤ) → FitsTruth truth value → (int_le (pos 0) value && int_le value maxint) ≡ true → IsInRange maxint truth value
in_range maxint true value fits ranged =
    let r = and_parts (int_le (pos 0) value) (int_le value maxint) ranged in
    let low = r.0 in
    record { low = grind (arith, ints); high = fits refl }
in_range maxint false value fits ranged =
    let r = and_parts (int_le (pos 0) value) (int_le value maxint) ranged in
    let low = r.0 in
    let high = r.1 in
    record { low = grind (arith, ints); high = grind (arith, ints) }

set_sound : (maxint : ℤ) (v : Var) (room : Bool) (var : ℕ) (tokens : List Token) → Makes (set_at maxint var v.is_bool tokens) (λ r. IsRightOf maxint v var room r.0)
unfolding set_at
set_sound maxint v room var tokens =
    then _ (constant_sound v.is_bool tokens) λ value fits.
    tested (int_le (pos 0) value.0 && int_le value.0 maxint) (Range (front_at tokens)) _ λ ranged.
    done (Set var value.0, value.1) (record { of = refl; fits = in_range maxint v.is_bool value.0 fits ranged; one = omega arith; none = λ fails. refl })

signed_ranged : (minus : Bool) (n : ℕ) → n ≤ 1000000000 → (neg_ℤ (pos 1000000000) ≤ℤ signed minus n) × (signed minus n ≤ℤ pos 1000000000)
signed_ranged true n high = (omega (arith, ints), omega (arith, ints))
signed_ranged false n high = (omega (arith, ints), omega (arith, ints))

one_range_atom : (update : Update) → range_atoms update ≤ 1
one_range_atom (Set var value) = omega arith
one_range_atom (Add var by) = at_most (int_eq by (pos 0)) where
  at_most : (b : Bool) → cond b 0 1 ≤ 1
  at_most true = omega arith
  at_most false = omega arith

no_range_atom : (var : ℕ) (minus : Bool) (n : ℕ) → n ≡ 0 → range_atoms (Add var (signed minus n)) ≡ 0
no_range_atom var true n zero_is = rw zero_is refl
no_range_atom var false n zero_is = rw zero_is refl

roomless : (n : ℕ) (room : Bool) → (n == 0 || room) ≡ true → room ≡ false → n ≡ 0
roomless n room few fails = by (n == 0) refl where
  by : (b : Bool) → (n == 0) ≡ b → n ≡ 0
  by true is = eqb-true n 0 is
  by false is = absurd cc

sum_sound : (maxint : ℤ) (v : Var) (room : Bool) (name : List ℕ) (var : ℕ) (tokens : List Token)
    → Makes (sum_at room name var v.is_bool tokens) (λ r. IsRightOf maxint v var room r.0)
unfolding sum_at
sum_sound maxint v room name var tokens =
    then _ (any (name_at tokens)) λ same a.
    tested (bytes_eq same.0 name) (Name (front_at tokens)) _ λ own.
    then _ (any (taken (next_sign same.1) same.1)) λ sign b.
    tested (not v.is_bool) (WrongKind (front_at same.1)) _ λ fits.
    then _ (any (number_at sign.1)) λ addend c.
    tested (nat_le addend.0 1000000000) (Range (front_at sign.1)) _ λ ranged.
    tested (addend.0 == 0 || room) (Limit (front_at sign.1)) _ λ few.
    let low : addend.0 ≤ 1000000000 = leb-true _ _ ranged in
    done (Add var (signed sign.0 addend.0), addend.1) (record {
      of = refl;
      fits = (not-true _ fits, signed_ranged sign.0 addend.0 low);
      one = one_range_atom (Add var (signed sign.0 addend.0));
      none = λ fails. no_range_atom var sign.0 addend.0 (roomless addend.0 room few fails);
    })

right_sound : (maxint : ℤ) (v : Var) (room : Bool) (name : List ℕ) (var : ℕ × Bool) (tokens : List Token) → v.is_bool ≡ var.1
    → Makes (right_at maxint room name var tokens) (λ r. IsRightOf maxint v var.0 room r.0)
right_sound maxint v room name var tokens kind =
    subst (λ (b : Bool). Makes (right_at maxint room name (var.0, b) tokens) (λ r. IsRightOf maxint v var.0 room r.0)) kind (
    either (is_name tokens) _ _ (λ holds. sum_sound maxint v room name var.0 tokens) (λ fails. set_sound maxint v room var.0 tokens))

-- ---- blocks

abbrev pub AreApart : Update → Update → Type 0
AreApart u w = target u ≢ target w

pub record AreUpdates (vars : List Var) (maxint : ℤ) (atoms : ℕ) (read : List Update) : Type 0 where
  pub updates : AllByRecursion (IsUpdateIn vars maxint) read
  pub once : AllPairs AreApart read
  pub short : atoms + all_range_atoms read ≤ 16

pub range_atoms_more : (updates : List Update) (u : Update) → all_range_atoms (updates ++ u ∷ []) ≡ all_range_atoms updates + range_atoms u
range_atoms_more [] u = omega arith
range_atoms_more (w ∷ updates) u = let e = range_atoms_more updates u in omega arith

not_yet : (updates : List Update) (var : ℕ) → is_updated updates var ≡ false → (k : ℕ) (d : Update) → k < length updates → target (get_or updates k d) ≢ var
not_yet [] var fails k d lt = absurd (omega arith)
not_yet (u ∷ updates) var fails zero d lt = λ same.
    let differs = (or_parts (target u == var) (is_updated updates var) fails).0 in
    let is : (target u == var) ≡ true = eq-eqb (target u) var same in
    absurd cc
not_yet (u ∷ updates) var fails (suc k) d lt = not_yet updates var (or_parts (target u == var) (is_updated updates var) fails).1 k d (omega arith)

more_updates : (vars : List Var) (maxint : ℤ) (atoms : ℕ) (updates : List Update) (var : ℕ) (v : Var) (u : Update)
    → slice_get vars var ≡ Some v → is_updated updates var ≡ false
    → IsRightOf maxint v var (nat_lt (atoms + all_range_atoms updates) 16) u → AreUpdates vars maxint atoms updates → AreUpdates vars maxint atoms (updates ++ u ∷ [])
more_updates vars maxint atoms updates var v u there new right are = record {
  updates = all_more (IsUpdateIn vars maxint) updates u are.updates (record { variable = v; there = ap (λ (i : ℕ). slice_get vars i) right.of ∙ there; fits = right.fits });
  once = all_pairs_push AreApart updates u are.once (λ k d lt same. not_yet updates var new k d lt (same ∙ right.of));
  short = by (nat_lt (atoms + all_range_atoms updates) 16) refl right.none;
} where
  by : (b : Bool) → nat_lt (atoms + all_range_atoms updates) 16 ≡ b → (b ≡ false → range_atoms u ≡ 0) → atoms + all_range_atoms (updates ++ u ∷ []) ≤ 16
  by true is none =
      let lt : atoms + all_range_atoms updates < 16 = ltb-true _ _ is in
      let one = right.one in
      let more = range_atoms_more updates u in
      omega arith
  by false is none =
      let zero_is = none refl in
      let more = range_atoms_more updates u in
      let before = are.short in
      omega arith

update_sound : (vars : List Var) (maxint : ℤ) (atoms : ℕ) (updates : List Update) (tokens : List Token) → AreUpdates vars maxint atoms updates
    → Makes (update_at vars maxint atoms updates tokens) (λ r. AreUpdates vars maxint atoms r.0)
unfolding update_at
update_sound vars maxint atoms updates tokens are =
    then _ (any (name_at tokens)) λ name a.
    then _ (given (variable_from 0 vars name.0) (Name (front_at tokens))) λ var named.
    tested (not (is_updated updates var.0)) (Twice (front_at tokens)) _ λ once.
    then _ (any (following (codes "=") name.1)) λ equals b.
    let found = variable_there 0 vars name.0 var named in
    let counted = found.counted in
    let same : found.index ≡ var.0 = omega arith in
    let there : slice_get vars var.0 ≡ Some found.variable = subst (λ (i : ℕ). slice_get vars i ≡ Some found.variable) same found.there in
    then _ (right_sound maxint found.variable (nat_lt (atoms + all_range_atoms updates) 16) name.0 var equals found.kind) λ update right.
    then _ (any (following (codes ";") update.1)) λ ended c.
    done (updates ++ update.0 ∷ [], ended) (more_updates vars maxint atoms updates var.0 found.variable update.0 there (not-true _ once) right are)

pub block_sound : (vars : List Var) (maxint : ℤ) (atoms : ℕ) (tokens : List Token) → atoms ≤ 16 → Makes (block_at vars maxint atoms tokens) (λ r. AreUpdates vars maxint atoms r.0)
unfolding block_at
block_sound vars maxint atoms tokens few =
    then _ (any (following (codes "{") tokens)) λ opened a.
    then _ (each_makes is_name (update_at vars maxint atoms) (λ updates left. AreUpdates vars maxint atoms updates) (λ updates left goes are. update_sound vars maxint atoms updates left are)
    [] opened (record { updates = tt; once = no_pairs AreApart; short = omega arith })) λ updates are.
    then _ (any (following (codes "}") updates.1)) λ closed b.
    done (updates.0, closed) are
