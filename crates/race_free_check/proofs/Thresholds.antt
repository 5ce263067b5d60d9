-- Numbers on the same side of a threshold.
use Rattle.std.proofs.Common.{◌≡◌, ◌≢◌, ℤ, ◌+ℤ◌, true, false, not, List, refl, sym, ap, ◌∙◌, arith}
use Rattle.std.specs.Prelude.{◌≤ℤ◌, ◌<ℤ◌, ◌-ℤ◌, int_le, int_lt}
use Rattle.std.specs.Ordering.{int_eq}
use Rattle.std.proofs.lemmas.Bool.{and_parts, false_from_ne_true}
use Rattle.std.proofs.lemmas.Bool.Decides.{Decides-int_eq}
use Rattle.std.proofs.lemmas.Int.{ints, by_lt_z}
use Rattle.conspec_tree.specs.declared.types.Rel.{Rel}
use Rattle.conspec_tree.specs.declared.types.Rel.TheVariants as relations
use Rattle.conspec_automaton.specs.Next.{relates}
use Rattle.conspec_automaton.specs.Range.{is_between}
use Rattle.race_free_check.proofs.Members.{Has}

-- ---- tests

pub is_equal : (x y : ℤ) → x ≡ y → int_eq x y ≡ true
is_equal x y e = (Decides-int_eq x y).1 e

pub equals : (x y : ℤ) → int_eq x y ≡ true → x ≡ y
equals x y e = (Decides-int_eq x y).0 e

pub differs : (x y : ℤ) → int_eq x y ≡ false → x ≢ y
differs x y e same = let t = is_equal x y same in absurd cc

not_equal : (x y : ℤ) → x ≢ y → int_eq x y ≡ false
not_equal x y ne = false_from_ne_true (int_eq x y) (λ e. ne (equals x y e))

pub is_le : (x y : ℤ) → x ≤ℤ y → int_le x y ≡ true
is_le x y h = grind (arith, ints)

pub from_le : (x y : ℤ) → int_le x y ≡ true → x ≤ℤ y
from_le x y e = grind (arith, ints)

not_le : (x y : ℤ) → y <ℤ x → int_le x y ≡ false
not_le x y h = grind (arith, ints)

is_lt : (x y : ℤ) → x <ℤ y → int_lt x y ≡ true
is_lt x y h = grind (arith, ints)

not_lt : (x y : ℤ) → y ≤ℤ x → int_lt x y ≡ false
not_lt x y h = grind (arith, ints)

pub record Within (low high x : ℤ) : Type 0 where
  pub least : low ≤ℤ x
  pub most : x ≤ℤ high

pub within : (low high x : ℤ) → is_between low high x ≡ true → Within low high x
within low high x e =
    let p = and_parts (int_le low x) (int_le x high) e in
    record { least = from_le low x p.0; most = from_le x high p.1 }

pub is_within : (low high x : ℤ) → low ≤ℤ x → x ≤ℤ high → is_between low high x ≡ true
is_within low high x l h = rw (is_le low x l, is_le x high h) refl

-- ---- sides

-- x and y are both below t, both t, or both above.
pub data Side : ℤ → ℤ → ℤ → Type 0 where
  below : {t x y : ℤ} → x <ℤ t → y <ℤ t → Side t x y
  level : {t x y : ℤ} → x ≡ t → y ≡ t → Side t x y
  above : {t x y : ℤ} → t <ℤ x → t <ℤ y → Side t x y

-- They are on the same side of each.
abbrev pub Alike : List ℤ → ℤ → ℤ → Type 0
Alike ts x y = (t : ℤ) → Has ts t → Side t x y

pub side_itself : (t x : ℤ) → Side t x x
side_itself t x = by_lt_z x t (λ lt. below lt lt) (λ le. by_lt_z t x (λ lt. above lt lt) (λ ge. let e : x ≡ t = omega (arith, ints) in level e e))

pub side_shifted : (k n x y : ℤ) → Side (k -ℤ n) x y → Side k (x +ℤ n) (y +ℤ n)
side_shifted k n x y (below p q) = below (omega (arith, ints)) (omega (arith, ints))
side_shifted k n x y (level p q) = level (omega (arith, ints)) (omega (arith, ints))
side_shifted k n x y (above p q) = above (omega (arith, ints)) (omega (arith, ints))

equal_same : (k x y : ℤ) → Side k x y → int_eq x k ≡ int_eq y k
equal_same k x y (below p q) = not_equal x k (λ e. absurd (omega (arith, ints))) ∙ sym (not_equal y k (λ e. absurd (omega (arith, ints))))
equal_same k x y (level p q) = is_equal x k p ∙ sym (is_equal y k q)
equal_same k x y (above p q) = not_equal x k (λ e. absurd (omega (arith, ints))) ∙ sym (not_equal y k (λ e. absurd (omega (arith, ints))))

-- a relation to the threshold is the same of both
pub relates_same : (rel : Rel) (k x y : ℤ) → Side k x y → relates rel x k ≡ relates rel y k
relates_same relations.Eq k x y side = equal_same k x y side
relates_same relations.Ne k x y side = ap not (equal_same k x y side)
relates_same relations.Lt k x y (below p q) = is_lt x k p ∙ sym (is_lt y k q)
relates_same relations.Lt k x y (level p q) = not_lt x k (omega (arith, ints)) ∙ sym (not_lt y k (omega (arith, ints)))
relates_same relations.Lt k x y (above p q) = not_lt x k (omega (arith, ints)) ∙ sym (not_lt y k (omega (arith, ints)))
relates_same relations.Le k x y (below p q) = is_le x k (omega (arith, ints)) ∙ sym (is_le y k (omega (arith, ints)))
relates_same relations.Le k x y (level p q) = is_le x k (omega (arith, ints)) ∙ sym (is_le y k (omega (arith, ints)))
relates_same relations.Le k x y (above p q) = not_le x k p ∙ sym (not_le y k q)
relates_same relations.Gt k x y (below p q) = not_lt k x (omega (arith, ints)) ∙ sym (not_lt k y (omega (arith, ints)))
relates_same relations.Gt k x y (level p q) = not_lt k x (omega (arith, ints)) ∙ sym (not_lt k y (omega (arith, ints)))
relates_same relations.Gt k x y (above p q) = is_lt k x p ∙ sym (is_lt k y q)
relates_same relations.Ge k x y (below p q) = not_le k x p ∙ sym (not_le k y q)
relates_same relations.Ge k x y (level p q) = is_le k x (omega (arith, ints)) ∙ sym (is_le k y (omega (arith, ints)))
relates_same relations.Ge k x y (above p q) = is_le k x (omega (arith, ints)) ∙ sym (is_le k y (omega (arith, ints)))
