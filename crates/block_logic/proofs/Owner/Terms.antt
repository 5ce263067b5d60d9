-- Terms and what they stand for: on the stack, the last on top, and in the policy's variables.
use Rattle.std.proofs.Common.{◌≡◌, ℕ, zero, suc, ◌<◌, ◌-◌, ℤ, Bool, true, false, cond, List, [], ◌∷◌, ◌++◌, length, reverse, take, drop, Some, None, refl, sym, ap, ◌∙◌, arith, take-append-drop, ltb-true}
use Rattle.std.specs.Prelude.{◌==◌, nat_lt, slice_get, slice_set}
use Rattle.std.specs.Ordering.{int_eq}
use Rattle.std.proofs.lemmas.Bool.{and_parts, eqb-true}
use Rattle.std.proofs.lemmas.Bool.Decides.{Decides-int_eq}
use Rattle.std.proofs.lemmas.List.{drop_all, reverse-append}
use Rattle.std.proofs.lemmas.Option.{slice_get_within}
use Rattle.api_listing.specs.declared.events.Event.{Event}
use Rattle.bytecode_model.specs.declared.program.Program.{Program}
use Rattle.cert_format.specs.declared.note.Term.{Term}
use Rattle.cert_format.specs.declared.note.Term.TheVariants as terms
use Rattle.conspec_automaton.specs.Next.{Values}
use Rattle.guest_heap.specs.declared.value.Value.{Value}
use Rattle.block_logic.specs.Meaning.{AreTerms, term_value}
use Rattle.block_logic.specs.Rows.{last_but_one, last_term, without}
use Rattle.block_logic.specs.Terms.{same_term, same_terms}

-- ---- the same terms

pub same_number : (n m : ℤ) → int_eq n m ≡ true → n ≡ m
same_number n m e = (Decides-int_eq n m).0 e

pub same_term_is : (t u : Term) → same_term t u ≡ true → t ≡ u
same_term_is (terms.Const n) (terms.Const m) e = ap terms.Const (same_number n m e)
same_term_is (terms.Var i) (terms.Var j) e = ap terms.Var (eqb-true i j e)
same_term_is (terms.VarAdd i n) (terms.VarAdd j m) e =
    let p = and_parts (i == j) (int_eq n m) e in
    let places : i ≡ j = eqb-true i j p.0 in
    let numbers : n ≡ m = same_number n m p.1 in
    rw (places, numbers) refl
same_term_is (terms.Arg i) (terms.Arg j) e = ap terms.Arg (eqb-true i j e)
same_term_is terms.Result terms.Result e = refl
same_term_is terms.Lock terms.Lock e = refl
same_term_is t u e = absurd cc

pub same_terms_are : (ts us : List Term) → same_terms ts us ≡ true → ts ≡ us
same_terms_are [] [] e = refl
same_terms_are [] (u ∷ us) e = absurd cc
same_terms_are (t ∷ ts) [] e = absurd cc
same_terms_are (t ∷ ts) (u ∷ us) e =
    let p = and_parts (same_term t u) (same_terms ts us) e in
    let first : t ≡ u = same_term_is t u p.0 in
    let others : ts ≡ us = same_terms_are ts us p.1 in
    rw (first, others) refl

-- ---- the ends of lists

following : {X : Type 0} (xs : List X) (n : ℕ) (x : X) → slice_get xs n ≡ Some x → drop n xs ≡ x ∷ drop (suc n) xs
following [] n x there = absurd cc
following (y ∷ xs) zero x there = let same : y ≡ x = cc in rw same refl
following (y ∷ xs) (suc n) x there = following xs n x there

-- the last one
pub last_is : (list : List Term) (t : Term) → last_term list ≡ Some t → reverse list ≡ t ∷ reverse (without 1 list)
last_is list t there =
    let n = length list - 1 in
    let inside : n < length list = slice_get_within list n t there in
    let none : drop (suc n) list ≡ [] = drop_all (suc n) list (omega arith) in
    let last : drop n list ≡ t ∷ [] = following list n t there ∙ ap (λ (ts : List Term). t ∷ ts) none in
    let split : list ≡ take n list ++ t ∷ [] = sym (take-append-drop n list) ∙ ap (λ (ts : List Term). take n list ++ ts) last in
    ap reverse split ∙ reverse-append (take n list) (t ∷ [])

-- the last two
pub last_two_are : (list : List Term) (x y : Term) → last_but_one list ≡ Some x → last_term list ≡ Some y → reverse list ≡ y ∷ x ∷ reverse (without 2 list)
last_two_are list x y first second = by (nat_lt 1 (length list)) refl first where
  by : (b : Bool) → nat_lt 1 (length list) ≡ b → cond b (slice_get list (length list - 2)) None ≡ Some x → reverse list ≡ y ∷ x ∷ reverse (without 2 list)
  by true more there =
      let long : 1 < length list = ltb-true 1 (length list) more in
      let k = length list - 2 in
      let next : suc k ≡ length list - 1 = omega arith in
      let last : slice_get list (suc k) ≡ Some y = rw next second in
      let none : drop (suc (suc k)) list ≡ [] = drop_all (suc (suc k)) list (omega arith) in
      let two : drop k list ≡ x ∷ y ∷ [] = following list k x there ∙ ap (λ (ts : List Term). x ∷ ts) (following list (suc k) y last ∙ ap (λ (ts : List Term). y ∷ ts) none) in
      let split : list ≡ take k list ++ x ∷ y ∷ [] = sym (take-append-drop k list) ∙ ap (λ (ts : List Term). take k list ++ ts) two in
      ap reverse split ∙ reverse-append (take k list) (x ∷ y ∷ [])
  by false few there = absurd cc

-- one more
pub one_more : (list : List Term) (t : Term) → reverse (list ++ t ∷ []) ≡ t ∷ reverse list
one_more list t = reverse-append list (t ∷ [])

-- ---- what terms stand for

module _ (program : Program) (state : Values) (e : Event) where
  -- The topmost term stands for the topmost operand.
  pub record IsTop (t : Term) (ts : List Term) (held : List Value) : Type 0 where
    pub value : Value
    pub below : List Value
    pub is : held ≡ value ∷ below
    pub stands : term_value program state e t ≡ Some value
    pub others : AreTerms program state e ts below

  pub top_of : (t : Term) (ts : List Term) (held : List Value) → AreTerms program state e (t ∷ ts) held → IsTop t ts held
  top_of t ts [] are = absurd cc
  top_of t ts (v ∷ held) are = record { value = v; below = held; is = refl; stands = cc; others = cc }

  pub one_above : (t : Term) (v : Value) (ts : List Term) (held : List Value) → term_value program state e t ≡ Some v → AreTerms program state e ts held
      → AreTerms program state e (t ∷ ts) (v ∷ held)
  one_above t v ts held stands are = rw (stands, are) refl

  pub term_at : (ts : List Term) (held : List Value) (i : ℕ) (t : Term) (v : Value) → AreTerms program state e ts held → slice_get ts i ≡ Some t
      → slice_get held i ≡ Some v → term_value program state e t ≡ Some v
  term_at [] held i t v are there is = absurd cc
  term_at (u ∷ ts) [] i t v are there is = absurd cc
  term_at (u ∷ ts) (w ∷ held) zero t v are there is =
      let stands : term_value program state e u ≡ Some w = cc in
      let same : u ≡ t = cc in
      let value : w ≡ v = cc in
      rw (← same, ← value) stands
  term_at (u ∷ ts) (w ∷ held) (suc i) t v are there is =
      let others : AreTerms program state e ts held = cc in
      term_at ts held i t v others there is

  pub term_set : (ts : List Term) (held : List Value) (i : ℕ) (t : Term) (v : Value) → AreTerms program state e ts held
      → term_value program state e t ≡ Some v → AreTerms program state e (slice_set ts i t) (slice_set held i v)
  term_set [] [] i t v are stands = refl
  term_set [] (w ∷ held) i t v are stands = absurd cc
  term_set (u ∷ ts) [] i t v are stands = absurd cc
  term_set (u ∷ ts) (w ∷ held) zero t v are stands =
      let others : AreTerms program state e ts held = cc in
      one_above t v ts held stands others
  term_set (u ∷ ts) (w ∷ held) (suc i) t v are stands =
      let first : term_value program state e u ≡ Some w = cc in
      let others : AreTerms program state e ts held = cc in
      one_above u w (slice_set ts i t) (slice_set held i v) first (term_set ts held i t v others stands)
