-- Places of bytes in a list that rises.
use Rattle.std.proofs.Common.{◌≡◌, ℕ, zero, suc, ◌+◌, ◌<◌, ◌≤◌, true, false, cond, eqb, List, [], ◌∷◌, length, get_or, Option, Some, None, Result, Ok, Err, refl, ap, ◌∙◌, arith}
use Rattle.std.specs.Prelude.{MatchResult}
use Rattle.std.specs.List.{position_from}
use Rattle.std.specs.List.Sorted.{IsBinarySearchResult}
use Rattle.std.specs.Ordering.{nat_cmp}
use Rattle.std.proofs.lemmas.Bool.Decides.{nat_tests}
use Rattle.std.proofs.lemmas.List.Sorted.{searched}
use Rattle.insn_codec.specs.declared.insn.Insn.{Insn}
use Rattle.insn_codec.specs.Encoding.{size, starts_from}
use Rattle.insn_codec.proofs.Standing.{size-some}
use Rattle.bytecode_model.specs.Starts.{index_at}
use Rattle.class_linking.specs.Handlers.{RisesFrom}

-- Each is as far above the first as it stands after it.
above : (low : ℕ) (ns : List ℕ) (i : ℕ) → RisesFrom low ns → i < length ns → low + i ≤ get_or ns i 0
above low [] i up within = absurd (omega arith)
above low (n ∷ ns) zero up within = omega (arith, up.0)
above low (n ∷ ns) (suc i) up within = omega (arith, up.0, above (n + 1) ns i up.1 (omega arith))

never_falls : (low : ℕ) (ns : List ℕ) (i j : ℕ) → RisesFrom low ns → i ≤ j → j < length ns → get_or ns i 0 ≤ get_or ns j 0
never_falls low [] i j up before within = absurd (omega arith)
never_falls low (n ∷ ns) zero zero up before within = omega arith
never_falls low (n ∷ ns) zero (suc j) up before within = omega (arith, above (n + 1) ns j up.1 (omega arith))
never_falls low (n ∷ ns) (suc i) zero up before within = absurd (omega arith)
never_falls low (n ∷ ns) (suc i) (suc j) up before within = never_falls (n + 1) ns i j up.1 (omega arith) (omega arith)

same : (a b : ℕ) → a ≡ b → eqb a b ≡ true
same a b e = grind (arith, nat_tests)

other : (a b : ℕ) → a < b → eqb a b ≡ false
other a b l = grind (arith, nat_tests)

-- The first place of a number is that in which it stands.
stands : (low at : ℕ) (ns : List ℕ) (i q : ℕ) → RisesFrom low ns → i < length ns → get_or ns i 0 ≡ q → position_from (λ (s : ℕ). eqb s q) at ns ≡ Some (at + i)
stands low at [] i q up within is = absurd (omega arith)
stands low at (n ∷ ns) zero q up within is =
    let there : at ≡ at + 0 = omega arith in
    ap (λ b. cond b (Some at) (position_from (λ (s : ℕ). eqb s q) (at + 1) ns)) (same n q is) ∙ ap Some there
stands low at (n ∷ ns) (suc i) q up within is =
    let below : n < q = omega (arith, is, above (n + 1) ns i up.1 (omega arith)) in
    let there : at + 1 + i ≡ at + suc i = omega arith in
    ap (λ b. cond b (Some at) (position_from (λ (s : ℕ). eqb s q) (at + 1) ns)) (other n q below) ∙ stands (n + 1) (at + 1) ns i q up.1 (omega arith) is ∙ ap Some there

-- A number between those before a place and those from it on is not among them.
stands_not : (at : ℕ) (ns : List ℕ) (i q : ℕ) → ((k : ℕ) → k < i → get_or ns k 0 < q) → ((k : ℕ) → i ≤ k → k < length ns → q < get_or ns k 0) → position_from (λ (s : ℕ). eqb s q) at ns ≡ None
stands_not at [] i q before following = refl
stands_not at (n ∷ ns) zero q before following =
    ap (λ b. cond b (Some at) (position_from (λ (s : ℕ). eqb s q) (at + 1) ns)) (greater n q (following 0 (omega arith) (omega arith)))
    ∙ stands_not (at + 1) ns 0 q (λ k l. absurd (omega arith)) (λ k l m. following (suc k) (omega arith) (omega arith)) where
      greater : (a b : ℕ) → b < a → eqb a b ≡ false
      greater a b l = grind (arith, nat_tests)
stands_not at (n ∷ ns) (suc i) q before following =
    ap (λ b. cond b (Some at) (position_from (λ (s : ℕ). eqb s q) (at + 1) ns)) (other n q (before 0 (omega arith)))
    ∙ stands_not (at + 1) ns i q (λ k l. before (suc k) (omega arith)) (λ k l m. following (suc k) (omega arith) (omega arith))

-- What a search by halving finds is the first place, and no further than the number.
pub halved : (ns : List ℕ) (q : ℕ) (r : Result ℕ ℕ) → RisesFrom 0 ns → IsBinarySearchResult (λ y. nat_cmp y q) ns r
    → MatchResult r (λ i. (index_at ns q ≡ Some i) × (i ≤ q)) (λ i. index_at ns q ≡ None)
halved ns q (Ok i) up found =
    let is = searched ns q (Ok i) found (λ a b l m. never_falls 0 ns a b up l m) in
    let there : 0 + i ≡ i = omega arith in
    (stands 0 0 ns i q up is.0 is.1 ∙ ap Some there, omega (arith, is.1, above 0 ns i up is.0))
halved ns q (Err i) up found =
    let is = searched ns q (Err i) found (λ a b l m. never_falls 0 ns a b up l m) in
    stands_not 0 ns i q is.1 is.2

lower : (low least : ℕ) (ns : List ℕ) → least ≤ low → RisesFrom low ns → RisesFrom least ns
lower low least [] l up = tt
lower low least (n ∷ ns) l up = (omega (arith, up.0), up.1)

-- The places at which instructions begin rise, since each has a byte or more.
pub starts_rise : (at : ℕ) (insns : List Insn) → RisesFrom at (starts_from at insns)
unfolding starts_from
starts_rise at [] = (omega arith, tt)
starts_rise at (x ∷ xs) = (omega arith, lower (at + size at x) (at + 1) (starts_from (at + size at x) xs) (omega (arith, size-some at x)) (starts_rise (at + size at x) xs))
