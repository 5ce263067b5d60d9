-- A client's handler covers the parts of what it covered.
use Rattle.std.proofs.Common.{◌≡◌, ℕ, zero, suc, ◌+◌, ◌<◌, ◌≤◌, List, [], ◌∷◌, length, Option, Some, None, refl, inl, inr, arith}
use Rattle.std.specs.Prelude.{nat_le, nat_lt, slice_get, slice_index}
use Rattle.std.specs.List.{AllByRecursion}
use Rattle.std.proofs.lemmas.Bool.{cases_Bool, ltb-true}
use Rattle.std.proofs.lemmas.Bool.Decides.{nat_tests}
use Rattle.std.proofs.lemmas.Option.{slice_get_within}
use Rattle.offset_patch.specs.declared.block.Block.{Block}
use Rattle.offset_patch.specs.Fits.{IsSite}
use Rattle.offset_patch.specs.Splicing.{fronts_from, part_of}
use Rattle.class_weaving.specs.Covering.{HandlersCoverParts}

some : (site : Option Block) → IsSite site → 1 ≤ length (part_of site)
some None is = omega arith
some (Some block) is = is.some

-- where the part of this index begins, the first one beginning at `at`
abbrev front : ℕ → List (Option Block) → ℕ → ℕ
front at sites i = slice_index (fronts_from at sites) i

front_first : (at : ℕ) (sites : List (Option Block)) → front at sites zero ≡ at
front_first at [] = refl
front_first at (site ∷ sites) = refl

-- Parts stand in the order of their instructions.
least : (at : ℕ) (sites : List (Option Block)) (i : ℕ) → i ≤ length sites → at ≤ front at sites i
least at [] zero le = omega arith
least at [] (suc i) le = absurd (omega arith)
least at (site ∷ sites) zero le = omega arith
least at (site ∷ sites) (suc i) le = omega (arith, least (at + length (part_of site)) sites i (omega (arith, le)))

grows : (at : ℕ) (sites : List (Option Block)) (i j : ℕ) → i ≤ j → j ≤ length sites → front at sites i ≤ front at sites j
grows at [] i zero le within =
    let none : i ≡ zero = omega (arith, le) in
    rw none (omega arith)
grows at [] i (suc j) le within = absurd (omega arith)
grows at (site ∷ sites) zero j le within = least at (site ∷ sites) j within
grows at (site ∷ sites) (suc i) zero le within = absurd (omega arith)
grows at (site ∷ sites) (suc i) (suc j) le within = grows (at + length (part_of site)) sites i j (omega (arith, le)) (omega (arith, within))

-- What stands after a part is after all of it.
reaches : (at : ℕ) (sites : List (Option Block)) (i j : ℕ) (site : Option Block) → slice_get sites i ≡ Some site → i < j → j ≤ length sites
    → front at sites i + length (part_of site) ≤ front at sites j
reaches at [] i j site e lt within = absurd cc
reaches at (s ∷ sites) zero zero site e lt within = absurd (omega arith)
reaches at (s ∷ sites) zero (suc j) site e lt within =
    let same : s ≡ site = cc in
    rw (← same) (least (at + length (part_of s)) sites j (omega (arith, within)))
reaches at (s ∷ sites) (suc i) zero site e lt within = absurd (omega arith)
reaches at (s ∷ sites) (suc i) (suc j) site e lt within = reaches (at + length (part_of s)) sites i j site e (omega (arith, lt)) (omega (arith, within))

site_in : (sites : List (Option Block)) (i : ℕ) (site : Option Block) → AllByRecursion IsSite sites → slice_get sites i ≡ Some site → IsSite site
site_in [] i site all e = absurd cc
site_in (s ∷ sites) zero site all e =
    let same : s ≡ site = cc in
    rw (← same) all.0
site_in (s ∷ sites) (suc i) site all e = site_in sites i site all.1 e

pub cover_parts : HandlersCoverParts
cover_parts sites handler i place site all within e less =
    let lt : i < length sites = slice_get_within sites i site e in
    let at : ℕ = front 0 sites i + place in
    let first : nat_le (front 0 sites handler.from) at ≡ nat_le handler.from i =
    elim (cases_Bool (nat_lt i handler.from)) [
      | inl is ↦
          let later : i < handler.from = ltb-true _ _ is in
          let after = reaches 0 sites i handler.from site e later (omega (arith, within.from)) in
          grind (arith, nat_tests, after, less, later)
      | inr fails ↦
          let before : handler.from ≤ i = grind (arith, nat_tests) in
          let low = grows 0 sites handler.from i before (omega (arith, lt)) in
          grind (arith, nat_tests, low, before)
    ] in
    let last : nat_lt at (front 0 sites handler.to) ≡ nat_lt i handler.to =
    elim (cases_Bool (nat_lt i handler.to)) [
      | inl is ↦
          let later : i < handler.to = ltb-true _ _ is in
          let after = reaches 0 sites i handler.to site e later within.to in
          grind (arith, nat_tests, after, less, later)
      | inr fails ↦
          let before : handler.to ≤ i = grind (arith, nat_tests) in
          let low = grows 0 sites handler.to i before (omega (arith, lt)) in
          grind (arith, nat_tests, low, before)
    ] in
    rw (first, last) refl
