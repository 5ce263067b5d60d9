-- The marks tell which instruction begins at a position.
use Rattle.std.proofs.Common.{◌≡◌, ℕ, zero, suc, ℤ, pos, negsuc, ◌+◌, ◌-◌, ◌≤◌, ◌<◌, true, false, List, [], ◌∷◌, ◌++◌, replicate, Option, Some, None, refl, sym, ap, ◌∙◌, inl, inr, arith, Vec, Global}
use Rattle.std.specs.Prelude.{◌==◌, slice_get}
use Rattle.std.proofs.Math.Path.{fun_ext}
use Rattle.std.proofs.lemmas.Bool.{cases_lt}
use Rattle.std.proofs.lemmas.Bool.Decides.{nat_tests}
use Rattle.insn_codec.specs.declared.insn.Insn.{Insn}
use Rattle.insn_codec.specs.declared.targets.Targets.TheVariants.{Among}
use Rattle.insn_codec.specs.Encoding.{size}
use Rattle.insn_codec.specs.Reading.{next_index, index_from, among}
use Rattle.insn_codec.specs.Targets.{mark, finds, marks_from}
use Rattle.insn_codec.proofs.Standing.{size-some}

same_number : (n : ℕ) → (n == n) ≡ true
same_number n = grind (arith, nat_tests)

other_number : (m n : ℕ) → m < n → (m == n) ≡ false
other_number m n lt = grind (arith, nat_tests)

-- ---- the index of an instruction

pub index_none : (at p : ℕ) → index_from at [] p ≡ None
unfolding index_from
index_none at p = refl

pub index_here : (at : ℕ) (x : Insn) (xs : List Insn) → index_from at (x ∷ xs) at ≡ Some 0
unfolding index_from
index_here at x xs = rw (same_number at) refl

pub index_later : (at : ℕ) (x : Insn) (xs : List Insn) (p : ℕ) → at < p → index_from at (x ∷ xs) p ≡ next_index (index_from (at + size at x) xs p)
unfolding index_from
index_later at x xs p lt = rw (other_number at p lt) refl

-- No instruction begins before the first.
pub index_before : (xs : List Insn) (at p : ℕ) → p < at → index_from at xs p ≡ None
unfolding index_from
index_before [] at p lt = refl
index_before (x ∷ xs) at p lt =
    let off : (at == p) ≡ false = grind (arith, nat_tests) in
    let none = index_before xs (at + size at x) p (omega arith) in
    rw (off, none) refl

-- ---- the marks

abbrev plus : ℕ → Option ℕ → Option ℕ
plus n None = None
plus n (Some i) = Some (n + i)

plus_next : (n : ℕ) (o : Option ℕ) → plus (n + 1) o ≡ plus n (next_index o)
plus_next n None = refl
plus_next n (Some i) = let e : n + 1 + i ≡ n + (i + 1) = omega arith in ap (λ (k : ℕ). Some k) e

within : (k q : ℕ) (ms : List (Option ℕ)) → q < k → mark (slice_get (replicate k None ++ ms) q) ≡ None
within zero q ms lt = absurd (omega arith)
within (suc k) zero ms lt = refl
within (suc k) (suc q) ms lt = within k q ms (omega arith)

beyond : (k q : ℕ) (ms : List (Option ℕ)) → k ≤ q → slice_get (replicate k None ++ ms) q ≡ slice_get ms (q - k)
beyond zero q ms le = let n : q - 0 ≡ q = omega arith in rw n refl
beyond (suc k) zero ms le = absurd (omega arith)
beyond (suc k) (suc q) ms le = let n : suc q - suc k ≡ q - k = omega arith in rw n (beyond k q ms (omega arith))

marks_first : (number at : ℕ) (x : Insn) (xs : List Insn)
    → marks_from number at (x ∷ xs) ≡ Some number ∷ (replicate (size at x - 1) None ++ marks_from (number + 1) (at + size at x) xs)
unfolding marks_from
marks_first number at x xs = refl

marks_none : (number at q : ℕ) → mark (slice_get (marks_from number at []) q) ≡ None
unfolding marks_from
marks_none number at q = refl

marked : (xs : List Insn) (number at q : ℕ) → mark (slice_get (marks_from number at xs) q) ≡ plus number (index_from at xs (at + q))
marked [] number at q = marks_none number at q ∙ sym (ap (plus number) (index_none at (at + q)))
marked (x ∷ xs) number at zero =
    let n : at + 0 ≡ at = omega arith in
    let m : number + 0 ≡ number = omega arith in
    let here : plus number (index_from at (x ∷ xs) (at + 0)) ≡ Some number = rw (n, index_here at x xs) (ap (λ (k : ℕ). Some k) m) in
    ap (λ (ms : List (Option ℕ)). mark (slice_get ms 0)) (marks_first number at x xs) ∙ sym here
marked (x ∷ xs) number at (suc q) =
    let s = size at x in
    let some = size-some at x in
    let ms = marks_from (number + 1) (at + s) xs in
    let first : mark (slice_get (marks_from number at (x ∷ xs)) (suc q)) ≡ mark (slice_get (replicate (s - 1) None ++ ms) q) = ap (λ (ns : List (Option ℕ)). mark (slice_get ns (suc q))) (marks_first number at x xs) in
    let far : s - 1 ≤ q → at + s + (q - (s - 1)) ≡ at + suc q = λ le. omega (arith, some, le) in
    let later : plus number (index_from at (x ∷ xs) (at + suc q)) ≡ plus number (next_index (index_from (at + s) xs (at + suc q))) = ap (plus number) (index_later at x xs (at + suc q) (omega arith)) in
    elim (cases_lt q (s - 1)) [
      | inl lt ↦ first ∙ within (s - 1) q ms lt ∙ sym (later ∙ ap (λ (o : Option ℕ). plus number (next_index o)) (index_before xs (at + s) (at + suc q) (omega (arith, some, lt))))
      | inr le ↦ first ∙ ap mark (beyond (s - 1) q ms le) ∙ marked xs (number + 1) (at + s) (q - (s - 1)) ∙ plus_next number (index_from (at + s) xs (at + s + (q - (s - 1))))
          ∙ ap (λ (p : ℕ). plus number (next_index (index_from (at + s) xs p))) (far le) ∙ sym later
    ]

-- ---- the finder

from_zero : (o : Option ℕ) → plus 0 o ≡ o
from_zero None = refl
from_zero (Some i) = let n : 0 + i ≡ i = omega arith in ap (λ (k : ℕ). Some k) n

found : (xs : List Insn) (marks : Vec (Option ℕ) Global) (z : ℤ) → marks.items ≡ marks_from 0 0 xs → finds (Among marks) z ≡ among xs z
found xs marks (pos p) is =
    let n : 0 + p ≡ p = omega arith in
    ap (λ (ms : List (Option ℕ)). mark (slice_get ms p)) is ∙ marked xs 0 0 p ∙ from_zero (index_from 0 xs (0 + p)) ∙ ap (index_from 0 xs) n
found xs marks (negsuc n) is = refl

pub finds_among : (xs : List Insn) (marks : Vec (Option ℕ) Global) → marks.items ≡ marks_from 0 0 xs → finds (Among marks) ≡ among xs
finds_among xs marks is = fun_ext (λ z. found xs marks z is)
