-- States in range stay so: what the range atoms are for.
use Rattle.std.proofs.Common.{◌≡◌, ◌≢◌, ℕ, zero, suc, ◌<◌, ◌≤◌, ℤ, pos, negsuc, ◌+ℤ◌, neg_ℤ, Bool, true, false, List, [], ◌∷◌, ◌++◌, length, map, get_or, take, drop, ◌-◌, Option, Some, None, refl, sym, ap, subst, ◌∙◌, arith, FitsSigned}
use Rattle.std.specs.Prelude.{◌≤ℤ◌, ◌-ℤ◌, int_le, int_lt, find, slice_get, slice_set}
use Rattle.std.specs.Int.{w32, int_wrapping_sub, int_wrapping_neg}
use Rattle.std.specs.List.{AllByRecursion, list_all, flat_map}
use Rattle.std.specs.Option.{option_map_or}
use Rattle.std.proofs.lemmas.Bool.{and_parts, false≢true}
use Rattle.std.proofs.lemmas.Int.{ints, int_wrap_fits, wrapping_sub_is, wrapping_neg_is}
use Rattle.std.proofs.lemmas.List.{take_all}
use Rattle.std.proofs.lemmas.Option.{slice_get_within}
use Rattle.api_listing.specs.declared.events.Event.{Event}
use Rattle.conspec_tree.specs.declared.types.Atom.{Atom}
use Rattle.conspec_tree.specs.declared.types.Rel.TheVariants.{Le, Ge}
use Rattle.conspec_tree.specs.declared.types.Update.{Update}
use Rattle.conspec_tree.specs.declared.types.Update.TheVariants.{Set, Add}
use Rattle.conspec_tree.specs.declared.types.Var.{Var}
use Rattle.conspec_tree.specs.Tree.{Askable, greatest, IsInRange, IsUpdateIn}
use Rattle.conspec_tree.specs.Updates.{target}
use Rattle.conspec_automaton.specs.declared.policy.Branch.{Branch}
use Rattle.conspec_automaton.specs.declared.policy.Clause.{Clause}
use Rattle.conspec_automaton.specs.declared.policy.Policy.{Policy}
use Rattle.conspec_automaton.specs.Building.{atoms_of, compared, range_atoms}
use Rattle.conspec_automaton.specs.Next.{Values, clause_of, holds, is_taken, moment, next, next_by, updated, updated_once}
use Rattle.conspec_automaton.specs.Range.{MayUpdate, SumFits, are_in_range, has_room, in_range, is_between, is_in_range}
use Rattle.conspec_automaton.specs.Sound.{IsBranchIn, IsClauseIn, IsPolicy}
use Rattle.conspec_automaton.specs.Turning.{Keeps}

-- ---- values of a state

pub int_test : (a b : ℤ) → a ≤ℤ b → int_le a b ≡ true
int_test a b h = grind (arith, ints)

pub int_low : (a b : ℤ) → int_le a b ≡ true → a ≤ℤ b
int_low a b e = grind (arith, ints)

pub between_from : (low high n : ℤ) → low ≤ℤ n → n ≤ℤ high → is_between low high n ≡ true
between_from low high n l h = rw (int_test low n l, int_test n high h) refl

pub record Between (low high n : ℤ) : Type 0 where
  pub least : low ≤ℤ n
  pub most : n ≤ℤ high

pub between_is : (low high n : ℤ) → is_between low high n ≡ true → Between low high n
between_is low high n e =
    let p = and_parts (int_le low n) (int_le n high) e in
    record { least = int_low low n p.0; most = int_low n high p.1 }

-- the range of an int variable
int_range : (maxint : ℤ) (v : Var) (n : ℤ) → v.is_bool ≡ false → is_in_range maxint v n ≡ is_between (pos 0) maxint n
int_range maxint v n e = ap (λ (b : Bool). is_between (pos 0) (greatest maxint b) n) e

-- the value of a variable
pub record IsValue (maxint : ℤ) (v : Var) (state : Values) (i : ℕ) : Type 0 where
  pub value : ℤ
  pub there : slice_get state i ≡ Some value
  pub ranged : is_in_range maxint v value ≡ true

pub value_there : (maxint : ℤ) (vars : List Var) (state : Values) (i : ℕ) (v : Var) → are_in_range maxint vars state ≡ true → slice_get vars i ≡ Some v → IsValue maxint v state i
value_there maxint [] state i v r e = absurd cc
value_there maxint (w ∷ vars) [] i v r e = absurd (false≢true r)
value_there maxint (w ∷ vars) (n ∷ state) zero v r e =
    let p = and_parts (is_in_range maxint w n) (are_in_range maxint vars state) r in
    let same : w ≡ v = cc in
    record { value = n; there = refl; ranged = subst (λ (x : Var). is_in_range maxint x n ≡ true) same p.0 }
value_there maxint (w ∷ vars) (n ∷ state) (suc i) v r e =
    let p = and_parts (is_in_range maxint w n) (are_in_range maxint vars state) r in
    let at = value_there maxint vars state i v p.1 e in
    record { value = at.value; there = at.there; ranged = at.ranged }

pub value_set : (maxint : ℤ) (vars : List Var) (state : Values) (i : ℕ) (v : Var) (n : ℤ) → are_in_range maxint vars state ≡ true → slice_get vars i ≡ Some v → is_in_range maxint v n ≡ true
    → are_in_range maxint vars (slice_set state i n) ≡ true
value_set maxint [] state i v n r e ranged = absurd cc
value_set maxint (w ∷ vars) [] i v n r e ranged = absurd (false≢true r)
value_set maxint (w ∷ vars) (m ∷ state) zero v n r e ranged =
    let p = and_parts (is_in_range maxint w m) (are_in_range maxint vars state) r in
    let same : v ≡ w = cc in
    let here : is_in_range maxint w n ≡ true = subst (λ (x : Var). is_in_range maxint x n ≡ true) same ranged in
    rw (here, p.1) refl
value_set maxint (w ∷ vars) (m ∷ state) (suc i) v n r e ranged =
    let p = and_parts (is_in_range maxint w m) (are_in_range maxint vars state) r in
    rw (p.0, value_set maxint vars state i v n p.1 e ranged) refl

pub same_length : (maxint : ℤ) (vars : List Var) (state : Values) → are_in_range maxint vars state ≡ true → length state ≡ length vars
same_length maxint [] [] r = refl
same_length maxint [] (n ∷ state) r = absurd (false≢true r)
same_length maxint (v ∷ vars) [] r = absurd (false≢true r)
same_length maxint (v ∷ vars) (n ∷ state) r = ap suc (same_length maxint vars state (and_parts (is_in_range maxint v n) (are_in_range maxint vars state) r).1)

-- the first values
pub firsts_in_range : (maxint : ℤ) (vars : List Var) → AllByRecursion (λ v. IsInRange maxint v.is_bool v.first) vars → are_in_range maxint vars (map (λ (v : Var). v.first) vars) ≡ true
firsts_in_range maxint [] all = refl
firsts_in_range maxint (v ∷ vars) all =
    rw (between_from (pos 0) (greatest maxint v.is_bool) v.first all.0.low all.0.high, firsts_in_range maxint vars all.1) refl

-- ---- lists

-- a list that is not empty is its first item and the others
pub front_at : {X : Type 0} (xs : List X) (d : X) → 1 ≤ length xs → xs ≡ get_or xs 0 d ∷ take (length xs - 1) (drop 1 xs)
front_at [] d long = absurd (omega arith)
front_at (x ∷ xs) d long =
    let all : take (length (x ∷ xs) - 1) xs ≡ xs = take_all (length (x ∷ xs) - 1) xs (omega arith) in
    rw all refl

pub none_left : {X : Type 0} (xs : List X) → length xs < 1 → xs ≡ []
none_left [] short = refl
none_left (x ∷ xs) short = absurd (omega arith)

pub take_set : {X : Type 0} (n : ℕ) (xs : List X) (i : ℕ) (x : X) → take n (slice_set xs i x) ≡ slice_set (take n xs) i x
take_set zero xs i x = refl
take_set (suc n) [] i x = refl
take_set (suc n) (y ∷ xs) zero x = refl
take_set (suc n) (y ∷ xs) (suc i) x = ap (λ (t : List _). y ∷ t) (take_set n xs i x)

pub all_parts : {X : Type 0} (p : X → Bool) (xs ys : List X) → list_all p (xs ++ ys) ≡ true → (list_all p xs ≡ true) × (list_all p ys ≡ true)
all_parts p [] ys e = (refl, e)
all_parts p (x ∷ xs) ys e =
    let q = and_parts (p x) (list_all p (xs ++ ys)) e in
    let r = all_parts p xs ys q.1 in
    (rw (q.0, r.0) refl, r.1)

only : {X : Type 0} (p : X → Bool) (x : X) → list_all p (x ∷ []) ≡ true → p x ≡ true
only p x e = (and_parts (p x) true e).0

pub record IsFound {X : Type 0} (P : X → Type 0) (p : X → Bool) (x : X) : Type 0 where
  pub so : P x
  pub passes : p x ≡ true

pub found_is : {X : Type 0} (P : X → Type 0) (p : X → Bool) (xs : List X) (x : X) → AllByRecursion P xs → find p xs ≡ Some x → IsFound P p x
found_is P p [] x all e = absurd cc
found_is P p (y ∷ xs) x all e = by (p y) refl (found_is P p xs x all.1) where
  by : (b : Bool) → p y ≡ b → (find p xs ≡ Some x → IsFound P p x) → IsFound P p x
  by true is later =
      let here : Some y ≡ Some x = rw is at e in
      let same : y ≡ x = cc in
      subst (IsFound P p) same (record { so = all.0; passes = is })
  by false is later = later (rw is at e)

-- ---- room for updates

wrapped_sub : (maxint by : ℤ) → pos 1 ≤ℤ maxint → maxint ≤ℤ pos 1000000000 → neg_ℤ (pos 1000000000) ≤ℤ by → by ≤ℤ pos 1000000000 → int_wrapping_sub w32 maxint by ≡ maxint -ℤ by
wrapped_sub maxint by low high least most =
    let f : FitsSigned w32 maxint = omega (arith, ints) in
    let g : FitsSigned w32 by = omega (arith, ints) in
    let h : FitsSigned w32 (maxint -ℤ by) = omega (arith, ints) in
    wrapping_sub_is w32 maxint by f g ∙ int_wrap_fits w32 (maxint -ℤ by) h

wrapped_neg : (by : ℤ) → neg_ℤ (pos 1000000000) ≤ℤ by → by ≤ℤ pos 1000000000 → int_wrapping_neg w32 by ≡ neg_ℤ by
wrapped_neg by least most =
    let g : FitsSigned w32 by = omega (arith, ints) in
    let h : FitsSigned w32 (neg_ℤ by) = omega (arith, ints) in
    wrapping_neg_is w32 by g ∙ int_wrap_fits w32 (neg_ℤ by) h

-- what an atom on a variable says of its value
compared_le : (state : Values) (event : Event) (var : ℕ) (value n : ℤ) → slice_get state var ≡ Some n → holds (moment state event) (compared var Le value) ≡ true → n ≤ℤ value
compared_le state event var value n there e =
    let h : int_le n value ≡ true = rw there at e in
    int_low n value h

compared_ge : (state : Values) (event : Event) (var : ℕ) (value n : ℤ) → slice_get state var ≡ Some n → holds (moment state event) (compared var Ge value) ≡ true → value ≤ℤ n
compared_ge state event var value n there e =
    let h : int_le value n ≡ true = rw there at e in
    int_low value n h

atoms_up : (maxint : ℤ) (var k : ℕ) → range_atoms maxint (Add var (pos (suc k))) ≡ compared var Le (int_wrapping_sub w32 maxint (pos (suc k))) ∷ []
atoms_up maxint var k =
    let t : int_lt (pos 0) (pos (suc k)) ≡ true = grind (arith, ints) in
    rw t refl

module _ (maxint : ℤ) (low : pos 1 ≤ℤ maxint) (high : maxint ≤ℤ pos 1000000000) (state : Values) (event : Event) where
  sum_in_range : (var : ℕ) (by n : ℤ) → slice_get state var ≡ Some n → Between (pos 0) maxint n → neg_ℤ (pos 1000000000) ≤ℤ by → by ≤ℤ pos 1000000000
      → list_all (holds (moment state event)) (range_atoms maxint (Add var by)) ≡ true → is_between (pos 0) maxint (n +ℤ by) ≡ true
  sum_in_range var (pos zero) n there ranged least most all = between_from (pos 0) maxint (n +ℤ pos zero) (omega (arith, ints)) (omega (arith, ints))
  sum_in_range var (pos (suc k)) n there ranged least most all =
      let p = only (holds (moment state event)) (compared var Le (int_wrapping_sub w32 maxint (pos (suc k)))) (ap (list_all (holds (moment state event))) (sym (atoms_up maxint var k)) ∙ all) in
      let h : n ≤ℤ (maxint -ℤ pos (suc k)) = subst (λ (x : ℤ). n ≤ℤ x) (wrapped_sub maxint (pos (suc k)) low high least most) (compared_le state event var (int_wrapping_sub w32 maxint (pos (suc k))) n there p) in
      between_from (pos 0) maxint (n +ℤ pos (suc k)) (omega (arith, ints)) (omega (arith, ints))
  sum_in_range var (negsuc k) n there ranged least most all =
      let p = only (holds (moment state event)) (compared var Ge (int_wrapping_neg w32 (negsuc k))) all in
      let h : neg_ℤ (negsuc k) ≤ℤ n = subst (λ (x : ℤ). x ≤ℤ n) (wrapped_neg (negsuc k) least most) (compared_ge state event var (int_wrapping_neg w32 (negsuc k)) n there p) in
      between_from (pos 0) maxint (n +ℤ negsuc k) (omega (arith, ints)) (omega (arith, ints))

  -- the range atoms leave room for the update
  has_room_of : (vars : List Var) (u : Update) → are_in_range maxint vars state ≡ true → IsUpdateIn vars maxint u → list_all (holds (moment state event)) (range_atoms maxint u) ≡ true → has_room maxint (moment state event) u ≡ true
  has_room_of vars (Set var value) r is all = refl
  has_room_of vars (Add var by) r is all =
      let at = value_there maxint vars state var is.variable r is.there in
      let whole : is_between (pos 0) maxint at.value ≡ true = sym (int_range maxint is.variable at.value is.fits.0) ∙ at.ranged in
      rw at.there (sum_in_range var by at.value at.there (between_is (pos 0) maxint at.value whole) is.fits.1.0 is.fits.1.1 all)

  pub all_have_room : (vars : List Var) (us : List Update) → are_in_range maxint vars state ≡ true → AllByRecursion (IsUpdateIn vars maxint) us → list_all (holds (moment state event)) (flat_map (range_atoms maxint) us) ≡ true
      → list_all (has_room maxint (moment state event)) us ≡ true
  all_have_room vars [] r each all = refl
  all_have_room vars (u ∷ us) r each all =
      let p = all_parts (holds (moment state event)) (range_atoms maxint u) (flat_map (range_atoms maxint) us) all in
      rw (has_room_of vars u r each.0 p.0, all_have_room vars us r each.1 p.1) refl

-- ---- one update

other_value : (state : Values) (i j : ℕ) (n : ℤ) → i ≢ j → slice_get (slice_set state i n) j ≡ slice_get state j
other_value [] i j n ne = refl
other_value (m ∷ state) zero zero n ne = absurd (ne refl)
other_value (m ∷ state) zero (suc j) n ne = refl
other_value (m ∷ state) (suc i) zero n ne = refl
other_value (m ∷ state) (suc i) (suc j) n ne = other_value state i j n (λ e. ne (ap suc e))

module _ (event : Event) where
  -- an update leaves the other variables alone
  other_update : (state : Values) (u : Update) (j : ℕ) → target u ≢ j → slice_get (updated_once (moment state event) u) j ≡ slice_get state j
  other_update state (Set var value) j ne = other_value state var j value ne
  other_update state (Add var by) j ne = by_value (slice_get state var) where
    by_value : (o : Option ℤ) → slice_get (option_map_or (λ n. slice_set state var (n +ℤ by)) o state) j ≡ slice_get state j
    by_value None = refl
    by_value (Some n) = other_value state var j (n +ℤ by) ne

  same_room : (maxint : ℤ) (state : Values) (u w : Update) → target u ≢ target w → has_room maxint (moment (updated_once (moment state event) u) event) w ≡ has_room maxint (moment state event) w
  same_room maxint state u (Set var value) ne = refl
  same_room maxint state u (Add var by) ne = ap (λ (o : Option ℤ). option_map_or (λ n. is_between (pos 0) maxint (n +ℤ by)) o false) (other_update state u var ne)

  still_room : (maxint : ℤ) (state : Values) (u : Update) (us : List Update) → ((i : ℕ) (d : Update) → i < length us → target u ≢ target (get_or us i d)) → list_all (has_room maxint (moment state event)) us ≡ true
      → list_all (has_room maxint (moment (updated_once (moment state event) u) event)) us ≡ true
  still_room maxint state u [] apart all = refl
  still_room maxint state u (w ∷ us) apart all =
      let p = and_parts (has_room maxint (moment state event) w) (list_all (has_room maxint (moment state event)) us) all in
      let here : has_room maxint (moment (updated_once (moment state event) u) event) w ≡ true = same_room maxint state u w (apart 0 w (omega arith)) ∙ p.0 in
      let later = still_room maxint state u us (λ i d below. apart (suc i) d (omega arith)) p.1 in
      rw (here, later) refl

  once_in_range : (maxint : ℤ) (vars : List Var) (state : Values) (u : Update) → are_in_range maxint vars state ≡ true → IsUpdateIn vars maxint u → has_room maxint (moment state event) u ≡ true → are_in_range maxint vars (updated_once (moment state event) u) ≡ true
  once_in_range maxint vars state (Set var value) r is room =
      value_set maxint vars state var is.variable value r is.there (between_from (pos 0) (greatest maxint is.variable.is_bool) value is.fits.low is.fits.high)
  once_in_range maxint vars state (Add var by) r is room =
      let at = value_there maxint vars state var is.variable r is.there in
      let sum : is_between (pos 0) maxint (at.value +ℤ by) ≡ true = rw at.there at room in
      let ranged : is_in_range maxint is.variable (at.value +ℤ by) ≡ true = int_range maxint is.variable (at.value +ℤ by) is.fits.0 ∙ sum in
      rw at.there (value_set maxint vars state var is.variable (at.value +ℤ by) r is.there ranged)

  pub may_go_on : (vars : List Var) (maxint : ℤ) (state : Values) (u : Update) (us : List Update) → MayUpdate vars maxint (moment state event) (u ∷ us) → MayUpdate vars maxint (moment (updated_once (moment state event) u) event) us
  may_go_on vars maxint state u us may =
      let p = and_parts (has_room maxint (moment state event) u) (list_all (has_room maxint (moment state event)) us) may.room in
      record {
        ranged = once_in_range maxint vars state u may.ranged may.each.0 p.0;
        each = may.each.1;
        once = λ i j d lt below. may.once (suc i) (suc j) d (omega arith) (omega arith);
        room = still_room maxint state u us (λ i d below. may.once 0 (suc i) d (omega arith) (omega arith)) p.1;
      }

  pub target_there : (vars : List Var) (maxint : ℤ) (state : Values) (u : Update) (us : List Update) → MayUpdate vars maxint (moment state event) (u ∷ us) → target u < length state
  target_there vars maxint state u us may =
      let at = value_there maxint vars state (target u) may.each.0.variable may.ranged may.each.0.there in
      slice_get_within state (target u) at.value at.there

  pub sum_fits : (vars : List Var) (maxint : ℤ) (state : Values) (u : Update) (us : List Update) → maxint ≤ℤ pos 1000000000 → MayUpdate vars maxint (moment state event) (u ∷ us) → SumFits (moment state event) u
  sum_fits vars maxint state (Set var value) us high may = tt
  sum_fits vars maxint state (Add var by) us high may = λ n there.
      let p = and_parts (has_room maxint (moment state event) (Add var by)) (list_all (has_room maxint (moment state event)) us) may.room in
      let sum : is_between (pos 0) maxint (n +ℤ by) ≡ true = rw there at p.0 in
      let b = between_is (pos 0) maxint (n +ℤ by) sum in
      omega (arith, ints)

  pub updated_in_range : (vars : List Var) (maxint : ℤ) (state : Values) (us : List Update) → MayUpdate vars maxint (moment state event) us → are_in_range maxint vars (updated (moment state event) us) ≡ true
  updated_in_range vars maxint state [] may = may.ranged
  updated_in_range vars maxint state (u ∷ us) may = updated_in_range vars maxint (updated_once (moment state event) u) us (may_go_on vars maxint state u us may)

-- ---- an event

pub branch_may : (policy : Policy) (askable : Askable) (state : Values) (event : Event) (branch : Branch) → IsPolicy policy → in_range policy state ≡ true → IsBranchIn policy.vars policy.maxint askable branch → is_taken (moment state event) branch ≡ true
    → MayUpdate policy.vars policy.maxint (moment state event) branch.updates
branch_may policy askable state event branch sound r is taken =
    let all : list_all (holds (moment state event)) (atoms_of policy.maxint branch.updates is.own) ≡ true = subst (λ (atoms : List Atom). list_all (holds (moment state event)) atoms ≡ true) is.kept taken in
    let p = all_parts (holds (moment state event)) is.own (flat_map (range_atoms policy.maxint) branch.updates) all in
    record {
      ranged = r;
      each = is.updates;
      once = is.once;
      room = all_have_room policy.maxint sound.maxint_low sound.maxint_high state event policy.vars branch.updates r is.updates p.1;
    }

pub found_may : (policy : Policy) (clause : Clause) (state : Values) (event : Event) (branch : Branch) → IsPolicy policy → IsClauseIn policy.vars policy.maxint clause → in_range policy state ≡ true
    → find (is_taken (moment state event)) clause.branches ≡ Some branch → MayUpdate policy.vars policy.maxint (moment state event) branch.updates
found_may policy clause state event branch sound is r e =
    let f = found_is _ (is_taken (moment state event)) clause.branches branch is.branches e in
    branch_may policy _ state event branch sound r f.so f.passes

next_by_keeps : (policy : Policy) (clause : Clause) (state end : Values) (event : Event) → IsPolicy policy → IsClauseIn policy.vars policy.maxint clause → in_range policy state ≡ true → next_by clause (moment state event) ≡ Some end → in_range policy end ≡ true
next_by_keeps policy clause state end event sound is r e = by (find (is_taken (moment state event)) clause.branches) refl where
  by : (o : Option Branch) → find (is_taken (moment state event)) clause.branches ≡ o → in_range policy end ≡ true
  by None found = let none : None ≡ Some end = rw found at e in absurd cc
  by (Some branch) found =
      let some : Some (updated (moment state event) branch.updates) ≡ Some end = rw found at e in
      let same : updated (moment state event) branch.updates ≡ end = cc in
      subst (λ (s : Values). in_range policy s ≡ true) same (updated_in_range event policy.vars policy.maxint state branch.updates (found_may policy clause state event branch sound is r found))

pub next_keeps : (policy : Policy) → IsPolicy policy → Keeps (next policy) (in_range policy)
next_keeps policy sound state end event r e = by (clause_of policy event) refl where
  by : (o : Option Clause) → clause_of policy event ≡ o → in_range policy end ≡ true
  by None found =
      let some : Some state ≡ Some end = rw found at e in
      let same : state ≡ end = cc in
      subst (λ (s : Values). in_range policy s ≡ true) same r
  by (Some clause) found =
      let f = found_is _ _ policy.clauses clause sound.clauses found in
      next_by_keeps policy clause state end event sound f.so r (rw found at e)
