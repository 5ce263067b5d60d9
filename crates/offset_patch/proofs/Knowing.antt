-- What was named stays where it was found as the pool grows.
use Rattle.std.proofs.Common.{◌≡◌, ℕ, Bool, true, false, cond, List, Option, Some, refl, sym, ap, ap₂, subst, ◌∙◌}
use Rattle.std.specs.Ordering.{is_eq, nat_cmp, bool_cmp}
use Rattle.std.specs.Cmp.{unsigned_tied, unsigned_Decides}
use Rattle.std.specs.BTreeMap.{BTreeMap}
use Rattle.std.proofs.lemmas.Bool.Decides.{Decides-int_eq}
use Rattle.class_codec.specs.declared.tree.Const.{Const}
use Rattle.offset_patch.specs.declared.block.PoolWant.{PoolWant}
use Rattle.offset_patch.specs.declared.block.PoolWant.TheVariants.{StateClass, StateField, Exit, Integer}
use Rattle.offset_patch.specs.declared.growth.Growth.{Growth}
use Rattle.offset_patch.specs.Added.{with_added}
use Rattle.offset_patch.specs.Entries.{Placed, wanted}
use Rattle.offset_patch.specs.Growth.{with_growth}
use Rattle.offset_patch.specs.Known.{want_cmp, known_at, known_place, AreNoted}
use Rattle.offset_patch.proofs.Finding.{then_is}
use Rattle.offset_patch.proofs.Steady.{steady_wanted}
use Rattle.std.proofs.lemmas.Bool.{and_parts}

-- ---- the order of the map

same_bool : (a b : Bool) → is_eq (bool_cmp a b) ≡ true → a ≡ b
same_bool true true e = refl
same_bool true false e = absurd cc
same_bool false true e = absurd cc
same_bool false false e = refl

same_field : (a b : ℕ) (x y : Bool) → is_eq (want_cmp (StateField a x) (StateField b y)) ≡ true → StateField a x ≡ StateField b y
same_field a b x y e =
    let two = and_parts (is_eq (nat_cmp a b)) (is_eq (bool_cmp x y)) (sym (then_is (nat_cmp a b) (bool_cmp x y)) ∙ e) in
    ap₂ StateField ((unsigned_Decides a b).0 (sym (unsigned_tied a b) ∙ two.0)) (same_bool x y two.1)

want_is : (a b : PoolWant) → is_eq (want_cmp a b) ≡ true → a ≡ b
want_is StateClass StateClass e = refl
want_is StateClass (StateField b y) e = absurd cc
want_is StateClass Exit e = absurd cc
want_is StateClass (Integer n) e = absurd cc
want_is (StateField a x) StateClass e = absurd cc
want_is (StateField a x) (StateField b y) e = same_field a b x y e
want_is (StateField a x) Exit e = absurd cc
want_is (StateField a x) (Integer n) e = absurd cc
want_is Exit StateClass e = absurd cc
want_is Exit (StateField b y) e = absurd cc
want_is Exit Exit e = refl
want_is Exit (Integer n) e = absurd cc
want_is (Integer m) StateClass e = absurd cc
want_is (Integer m) (StateField b y) e = absurd cc
want_is (Integer m) Exit e = absurd cc
want_is (Integer m) (Integer n) e = ap Integer ((Decides-int_eq m n).0 e)

-- ---- the pool grows

-- what was found is found again, where another entry is asked for
still_there : (pool : List Const) (want other : PoolWant) (at : ℕ) → wanted other pool ≡ (pool, at)
    → wanted other (wanted want pool).0 ≡ ((wanted want pool).0, at)
still_there pool want other at e =
    let grows = (steady_wanted want).grows pool in
    subst (λ (p : List Const). wanted other p ≡ (p, at)) (sym grows.1) ((steady_wanted other).stays pool grows.0 at e)

-- what is asked for is found again
found_again : (pool after : List Const) (want : PoolWant) (at : ℕ) → wanted want pool ≡ (after, at) → wanted want after ≡ (after, at)
found_again pool after want at e =
    subst (λ (z : Placed). wanted want z.0 ≡ z) e ((steady_wanted want).settles pool)

-- one entry more is known
known_more : (pool after : List Const) (known : Option (BTreeMap PoolWant ℕ)) (places : BTreeMap PoolWant ℕ) (want : PoolWant) (at : ℕ) → AreNoted pool known
    → wanted want pool ≡ (after, at) → ((q : PoolWant) → known_at places q ≡ cond (is_eq (want_cmp want q)) (Some at) (known_place known q)) → AreNoted after (Some places)
known_more pool after known places want at good is puts = record { there = λ q i e. by q i (is_eq (want_cmp want q)) refl (sym (puts q) ∙ e) }
  where
    by : (q : PoolWant) (i : ℕ) (b : Bool) → is_eq (want_cmp want q) ≡ b → cond (is_eq (want_cmp want q)) (Some at) (known_place known q) ≡ Some i → wanted q after ≡ (after, i)
    by q i true same e =
        let place : Some at ≡ Some i = sym (ap (λ (b : Bool). cond b (Some at) (known_place known q)) same) ∙ e in
        let at_is : at ≡ i = cc in
        subst (λ (w : PoolWant). wanted w after ≡ (after, i)) (want_is want q same) (found_again pool after want i (is ∙ ap (λ (n : ℕ). (after, n)) at_is))
    by q i false other e =
        let before : known_place known q ≡ Some i = sym (ap (λ (b : Bool). cond b (Some at) (known_place known q)) other) ∙ e in
        let grown : (wanted want pool).0 ≡ after = ap (λ (z : Placed). z.0) is in
        subst (λ (p : List Const). wanted q p ≡ (p, i)) grown (still_there pool want q i (good.there q i before))

-- what was known, and one more, where the pool was read twice
pub known_grown : (items first second : List Const) (before kept : Option Growth) (growth after : Growth) (known taken : Option (BTreeMap PoolWant ℕ))
    (places : BTreeMap PoolWant ℕ) (want : PoolWant) (at : ℕ) → AreNoted (with_growth items before) known → first ≡ items → second ≡ items → kept ≡ before → taken ≡ known
    → with_added first growth.added.keys ≡ with_growth first kept → wanted want (with_added second growth.added.keys) ≡ (with_added second after.added.keys, at)
    → ((q : PoolWant) → known_at places q ≡ cond (is_eq (want_cmp want q)) (Some at) (known_place taken q)) → AreNoted (with_added items after.added.keys) (Some places)
known_grown items first second before kept growth after known taken places want at good first_is second_is kept_is taken_is begun found puts =
    let pool : with_added second growth.added.keys ≡ with_growth items before =
    ap (λ (p : List Const). with_added p growth.added.keys) (second_is ∙ sym first_is) ∙ begun ∙ ap₂ with_growth first_is kept_is in
    let is : wanted want (with_growth items before) ≡ (with_added items after.added.keys, at) =
    sym (ap (wanted want) pool) ∙ found ∙ ap (λ (p : List Const). (with_added p after.added.keys, at)) second_is in
    known_more (with_growth items before) (with_added items after.added.keys) known places want at good is
    (λ q. puts q ∙ ap (λ (o : Option (BTreeMap PoolWant ℕ)). cond (is_eq (want_cmp want q)) (Some at) (known_place o q)) taken_is)
