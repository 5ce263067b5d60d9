-- The comparisons of a check, and its sums of a variable and a number.
use Rattle.std.proofs.Common.{◌≡◌, ℕ, zero, suc, ◌<◌, ◌≤◌, ◌+◌, ℤ, pos, ◌+ℤ◌, ◌-ℤ◌, Bool, true, false, List, [], ◌∷◌, length, Option, Some, None, refl, sym, ap, ◌∙◌, subst, arith, inl, inr, FitsSigned}
use Rattle.std.specs.Prelude.{◌≤ℤ◌, int_le, int_lt, not, option_map, slice_get}
use Rattle.std.specs.Int.{w32, int_wrapping_add}
use Rattle.std.specs.List.{list_all}
use Rattle.std.specs.Option.{option_map_or}
use Rattle.std.specs.Ordering.{int_eq}
use Rattle.std.proofs.lemmas.Bool.{and_parts, and_right, cases_lt}
use Rattle.std.proofs.lemmas.Int.{ints, int_wrap_fits, wrapping_add_is}
use Rattle.std.proofs.lemmas.Option.{cond_some, slice_get_within}
use Rattle.api_listing.specs.declared.events.Event.{Event}
use Rattle.insn_codec.specs.declared.shape.Relation.{Relation}
use Rattle.insn_codec.specs.declared.shape.Relation.TheVariants as relations
use Rattle.insn_codec.specs.Control.{relates as compares}
use Rattle.bytecode_model.specs.declared.program.Program.{Program}
use Rattle.cert_format.specs.declared.note.Term.{Term}
use Rattle.cert_format.specs.declared.note.Term.TheVariants as terms
use Rattle.conspec_tree.specs.declared.types.Atom.{Atom}
use Rattle.conspec_tree.specs.declared.types.Base.{Base}
use Rattle.conspec_tree.specs.declared.types.Base.TheVariants as bases
use Rattle.conspec_tree.specs.declared.types.Rel.{Rel}
use Rattle.conspec_tree.specs.declared.types.Rel.TheVariants as rels
use Rattle.conspec_tree.specs.Tree.{greatest}
use Rattle.conspec_automaton.specs.declared.policy.Branch.{Branch}
use Rattle.conspec_automaton.specs.declared.policy.Policy.{Policy}
use Rattle.conspec_automaton.specs.Next.{Values, holds, is_taken, moment, relates, value_of}
use Rattle.conspec_automaton.specs.Range.{in_range, is_between}
use Rattle.conspec_automaton.specs.Sound.{IsPolicy}
use Rattle.conspec_automaton.proofs.Ranges.{between_is, int_low, same_length, value_there}
use Rattle.guest_heap.specs.declared.value.Value.{Value}
use Rattle.guest_heap.specs.declared.value.Value.TheVariants as values
use Rattle.guest_frames.specs.Values.{number_of}
use Rattle.guest_model.proofs.Options.{map_of}
use Rattle.block_logic.specs.Meaning.{IsTried, term_value}
use Rattle.block_logic.specs.Rows.{asks_atom, is_addend, is_negation, is_relation, last_but_one, last_term, sum_of}
use Rattle.block_logic.specs.Terms.{base_term, same_term}
use Rattle.block_logic.proofs.Owner.Weakening.{slice_get_there}
use Rattle.block_logic.proofs.Owner.Terms.{same_term_is}

-- ---- relations

twice_not : (b : Bool) → b ≡ not (not b)
twice_not true = refl
twice_not false = refl

at_least : (x y : ℤ) → int_le y x ≡ not (int_lt x y)
at_least x y = grind (arith, ints)

less_than : (x y : ℤ) → int_lt x y ≡ not (int_le y x)
less_than x y = grind (arith, ints)

-- an instruction that jumps by the relation
pub relates_same : (rel : Rel) (relation : Relation) (x y : ℤ) → is_relation rel relation ≡ true → compares relation x y ≡ relates rel x y
relates_same rels.Eq relations.Equal x y e = refl
relates_same rels.Ne relations.NotEqual x y e = refl
relates_same rels.Lt relations.Less x y e = refl
relates_same rels.Le relations.LessOrEqual x y e = refl
relates_same rels.Gt relations.Greater x y e = refl
relates_same rels.Ge relations.GreaterOrEqual x y e = refl
relates_same rel relation x y e = absurd cc

-- and one that jumps by the other
pub relates_not : (rel : Rel) (relation : Relation) (x y : ℤ) → is_negation rel relation ≡ true → compares relation x y ≡ not (relates rel x y)
relates_not rels.Eq relations.NotEqual x y e = refl
relates_not rels.Ne relations.Equal x y e = twice_not (int_eq x y)
relates_not rels.Lt relations.GreaterOrEqual x y e = at_least x y
relates_not rels.Le relations.Greater x y e = less_than y x
relates_not rels.Gt relations.LessOrEqual x y e = at_least y x
relates_not rels.Ge relations.Less x y e = less_than x y
relates_not rel relation x y e = absurd cc

-- ---- an atom

-- what it compares is on top
pub record AsksAtom (list : List Term) (atom : Atom) : Type 0 where
  pub base : last_but_one list ≡ Some (base_term atom.base)
  pub value : last_term list ≡ Some (terms.Const atom.value)

same_as : (t : Term) (o : Option Term) → option_map_or (same_term t) o false ≡ true → o ≡ Some t
same_as t None e = absurd cc
same_as t (Some u) e = ap Some (sym (same_term_is t u e))

pub atom_asked : (list : List Term) (atom : Atom) → asks_atom list atom ≡ true → AsksAtom list atom
atom_asked list atom e =
    let p = and_parts (option_map_or (same_term (base_term atom.base)) (last_but_one list) false) (option_map_or (same_term (terms.Const atom.value)) (last_term list) false) e in
    record { base = same_as (base_term atom.base) (last_but_one list) p.0; value = same_as (terms.Const atom.value) (last_term list) p.1 }

module _ (program : Program) (state : Values) (event : Event) where
  base_is : (base : Base) → term_value program state event (base_term base) ≡ option_map values.Int (value_of (moment state event) base)
  base_is (bases.Var var) = refl
  base_is (bases.Arg i) = refl
  base_is bases.Result = refl

  -- It holds where its operands relate.
  pub compared_holds : (atom : Atom) (x y : Value) → term_value program state event (base_term atom.base) ≡ Some x
      → term_value program state event (terms.Const atom.value) ≡ Some y → holds (moment state event) atom ≡ relates atom.rel (number_of x) (number_of y)
  compared_holds atom x y first second =
      let n = map_of values.Int (value_of (moment state event) atom.base) x (sym (base_is atom.base) ∙ first) in
      let constant : values.Int atom.value ≡ y = cc in
      known n.0 n.1 x n.2 y constant where
        known : (n : ℤ) → value_of (moment state event) atom.base ≡ Some n → (x : Value) → values.Int n ≡ x → (y : Value) → values.Int atom.value ≡ y
            → holds (moment state event) atom ≡ relates atom.rel (number_of x) (number_of y)
        known n is x first y second = rw (is, ← first, ← second) refl

  -- ---- branches that are tried

  module _ (branches : List Branch) (failed holding : ℕ) (branch : Branch) (atom : Atom) (there : slice_get branches failed ≡ Some branch)
      (next : slice_get branch.atoms holding ≡ Some atom) (tried : IsTried state event branches failed holding) where
    same_branch : (b : Branch) → slice_get branches failed ≡ Some b → branch ≡ b
    same_branch b is = cc

    pub one_more_holds : holds (moment state event) atom ≡ true → IsTried state event branches failed (holding + 1)
    one_more_holds so = record {
      few = tried.few;
      fail = tried.fail;
      hold = λ b is. subst (λ (c : Branch). (holding + 1 ≤ length c.atoms) × ((j : ℕ) (x : Atom) → j < holding + 1 → slice_get c.atoms j ≡ Some x → holds (moment state event) x ≡ true))
          (same_branch b is) (omega (arith, slice_get_within branch.atoms holding atom next), each);
    } where
      each : (j : ℕ) (x : Atom) → j < holding + 1 → slice_get branch.atoms j ≡ Some x → holds (moment state event) x ≡ true
      each j x less is = elim (cases_lt j holding) [
        | inl before ↦ (tried.hold branch there).1 j x before is
        | inr last ↦
            let here : j ≡ holding = omega arith in
            let same : atom ≡ x = let at : slice_get branch.atoms holding ≡ Some x = subst (λ (n : ℕ). slice_get branch.atoms n ≡ Some x) here is in cc in
            subst (λ (y : Atom). holds (moment state event) y ≡ true) same so
      ]

    one_fails : {X : Type 0} (p : X → Bool) (xs : List X) (i : ℕ) (x : X) → slice_get xs i ≡ Some x → p x ≡ false → list_all p xs ≡ false
    one_fails p [] i x is fails = absurd cc
    one_fails p (y ∷ xs) zero x is fails = let same : y ≡ x = cc in rw (same, fails) refl
    one_fails p (y ∷ xs) (suc i) x is fails = and_right (p y) (list_all p xs) (one_fails p xs i x is fails)

    pub one_more_fails : holds (moment state event) atom ≡ false → IsTried state event branches (failed + 1) 0
    one_more_fails not_so = record {
      few = omega (arith, slice_get_within branches failed branch there);
      fail = each;
      hold = λ b is. (omega arith, λ j x less at. absurd (omega arith));
    } where
      each : (j : ℕ) (b : Branch) → j < failed + 1 → slice_get branches j ≡ Some b → is_taken (moment state event) b ≡ false
      each j b less is = elim (cases_lt j failed) [
        | inl before ↦ tried.fail j b before is
        | inr last ↦
            let here : j ≡ failed = omega arith in
            let same : branch ≡ b = same_branch b (subst (λ (n : ℕ). slice_get branches n ≡ Some b) here is) in
            subst (λ (c : Branch). is_taken (moment state event) c ≡ false) same (one_fails (holds (moment state event)) branch.atoms holding atom next not_so)
      ]

-- ---- sums

-- a variable is at most 1,000,000,000
record IsSmall (m : ℤ) : Type 0 where
  pub low : pos 0 ≤ℤ m
  pub high : m ≤ℤ pos 1000000000

variable_small : (policy : Policy) (good : IsPolicy policy) (state : Values) (var : ℕ) (m : ℤ) → in_range policy state ≡ true → slice_get state var ≡ Some m → IsSmall m
variable_small policy good state var m ranged there =
    let many = same_length policy.maxint policy.vars state ranged in
    let v = slice_get_there policy.vars var (omega (arith, slice_get_within state var m there)) in
    let value = value_there policy.maxint policy.vars state var v.0 ranged v.1 in
    let same : value.value ≡ m = let both : Some value.value ≡ Some m = sym value.there ∙ there in cc in
    by v.0.is_bool (subst (λ (n : ℤ). is_between (pos 0) (greatest policy.maxint v.0.is_bool) n ≡ true) same value.ranged) where
      by : (b : Bool) → is_between (pos 0) (greatest policy.maxint b) m ≡ true → IsSmall m
      by true e = let p = between_is (pos 0) (pos 1) m e in record { low = p.least; high = omega (arith, ints, p.most) }
      by false e = let p = between_is (pos 0) policy.maxint m e in record { low = p.least; high = omega (arith, ints, p.most, good.maxint_high) }

-- The sum of a variable and an addend does not wrap.
no_wrap : (m n : ℤ) → IsSmall m → is_addend n ≡ true → int_wrapping_add w32 m n ≡ m +ℤ n
no_wrap m n small e =
    let p = and_parts (int_le (pos 0 -ℤ pos 1000000000) n) (int_le n (pos 1000000000)) e in
    let least = int_low (pos 0 -ℤ pos 1000000000) n p.0 in
    let most = int_low n (pos 1000000000) p.1 in
    let f : FitsSigned w32 m = omega (arith, ints, small.low, small.high) in
    let g : FitsSigned w32 n = omega (arith, ints, least, most) in
    let h : FitsSigned w32 (m +ℤ n) = omega (arith, ints, least, most, small.low, small.high) in
    wrapping_add_is w32 m n f g ∙ int_wrap_fits w32 (m +ℤ n) h

no_wrap_flipped : (m n : ℤ) → IsSmall m → is_addend n ≡ true → int_wrapping_add w32 n m ≡ m +ℤ n
no_wrap_flipped m n small e =
    let p = and_parts (int_le (pos 0 -ℤ pos 1000000000) n) (int_le n (pos 1000000000)) e in
    let least = int_low (pos 0 -ℤ pos 1000000000) n p.0 in
    let most = int_low n (pos 1000000000) p.1 in
    let f : FitsSigned w32 m = omega (arith, ints, small.low, small.high) in
    let g : FitsSigned w32 n = omega (arith, ints, least, most) in
    let h : FitsSigned w32 (n +ℤ m) = omega (arith, ints, least, most, small.low, small.high) in
    wrapping_add_is w32 n m g f ∙ int_wrap_fits w32 (n +ℤ m) h ∙ turned m n where
      turned : (m n : ℤ) → n +ℤ m ≡ m +ℤ n
      turned m n = omega (arith, ints)

module _ (program : Program) (policy : Policy) (good : IsPolicy policy) (state : Values) (event : Event) (ranged : in_range policy state ≡ true) where
  made : (m n : ℤ) (v w : Value) → values.Int m ≡ v → values.Int n ≡ w → int_wrapping_add w32 m n ≡ int_wrapping_add w32 (number_of v) (number_of w)
  made m n v w first second = rw (← first, ← second) refl

  sum_known : (var : ℕ) (n m : ℤ) (t : Term) (v w : Value) → slice_get state var ≡ Some m → terms.VarAdd var n ≡ t → (k : ℤ) → k ≡ m +ℤ n
      → k ≡ int_wrapping_add w32 (number_of v) (number_of w)
      → term_value program state event t ≡ Some (values.Int (int_wrapping_add w32 (number_of v) (number_of w)))
  sum_known var n m t v w there is k sum also = rw (← is, ← also, there, sum) refl

  -- What an addition pushes is what the sum stands for.
  pub sum_is : (x y t : Term) (v w : Value) → sum_of x y ≡ Some t → term_value program state event x ≡ Some v → term_value program state event y ≡ Some w
      → term_value program state event t ≡ Some (values.Int (int_wrapping_add w32 (number_of v) (number_of w)))
  sum_is (terms.Var var) (terms.Const n) t v w e first second =
      let c = cond_some (is_addend n) (terms.VarAdd var n) t e in
      let m = map_of values.Int (slice_get state var) v first in
      let constant : values.Int n ≡ w = cc in
      let sum = no_wrap m.0 n (variable_small policy good state var m.0 ranged m.1) c.0 in
      sum_known var n m.0 t v w m.1 c.1 (int_wrapping_add w32 m.0 n) sum (made m.0 n v w m.2 constant)
  sum_is (terms.Const n) (terms.Var var) t v w e first second =
      let c = cond_some (is_addend n) (terms.VarAdd var n) t e in
      let m = map_of values.Int (slice_get state var) w second in
      let constant : values.Int n ≡ v = cc in
      let sum = no_wrap_flipped m.0 n (variable_small policy good state var m.0 ranged m.1) c.0 in
      sum_known var n m.0 t v w m.1 c.1 (int_wrapping_add w32 n m.0) sum (made n m.0 v w constant m.2)
  sum_is x y t v w e first second = absurd cc
