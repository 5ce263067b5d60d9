-- Instructions stand where their origins tell.
use Rattle.std.proofs.Common.{◌≡◌, ℕ, zero, suc, ◌+◌, ◌<◌, List, [], ◌∷◌, ◌++◌, length, get_or, map, Option, Some, None, refl, sym, ap, subst, ◌∙◌, arith}
use Rattle.std.specs.Prelude.{slice_get, slice_index}
use Rattle.std.specs.List.{AllByRecursion, enumerate_from, flat_map}
use Rattle.std.proofs.lemmas.List.{length-append, length-map}
use Rattle.bytecode_model.specs.declared.origin.Origin.{Origin}
use Rattle.offset_patch.specs.declared.block.Block.{Block}
use Rattle.offset_patch.specs.declared.block.BlockInsn.{BlockInsn}
use Rattle.offset_patch.specs.declared.block.BlockInsn.TheVariants.{Plain, Byte, Short, Local, Want, Jump, Call}
use Rattle.offset_patch.specs.Fits.{IsSite, calls_in}
use Rattle.offset_patch.specs.Origins.{StandAsTold, place_told}
use Rattle.offset_patch.specs.Splicing.{call_place, count_of, fronts_from, fronts_of, origin_of, origins_of, part_of, part_origins}

-- ---- as many as there are instructions

enumerated : {X : Type 0} (at : ℕ) (xs : List X) → length (enumerate_from at xs) ≡ length xs
enumerated at [] = refl
enumerated at (x ∷ xs) = ap suc (enumerated (at + 1) xs)

part_many : (i : ℕ) (site : Option Block) → length (part_origins (i, site)) ≡ length (part_of site)
part_many i site = length-map (enumerate_from 0 (part_of site)) (origin_of i) ∙ enumerated 0 (part_of site)

pub told_many : (i : ℕ) (sites : List (Option Block)) → length (flat_map part_origins (enumerate_from i sites)) ≡ count_of sites
told_many i [] = refl
told_many i (site ∷ sites) =
    omega (
      arith,
      length-append (part_origins (i, site)) (flat_map part_origins (enumerate_from (i + 1) sites)),
      part_many i site,
      told_many (i + 1) sites,
    )

-- ---- where they stand

-- The client's instruction stands in its part once, so at the first place at which it is found.
call_once : (insns : List BlockInsn) (k : ℕ) → calls_in insns ≡ 1 → slice_get insns k ≡ Some Call → call_place insns ≡ k
unfolding call_place
call_once [] k one e = absurd cc
call_once (Call ∷ insns) zero one e = refl
call_once (Call ∷ insns) (suc k) one e = absurd (omega (arith, one, found insns k e))
  where
    found : (insns : List BlockInsn) (k : ℕ) → slice_get insns k ≡ Some Call → 0 < calls_in insns
    found [] k e = absurd cc
    found (Call ∷ insns) k e = omega arith
    found (Plain op ∷ insns) zero e = absurd cc
    found (Plain op ∷ insns) (suc k) e = found insns k e
    found (Byte n ∷ insns) zero e = absurd cc
    found (Byte n ∷ insns) (suc k) e = found insns k e
    found (Short n ∷ insns) zero e = absurd cc
    found (Short n ∷ insns) (suc k) e = found insns k e
    found (Local op slot wide ∷ insns) zero e = absurd cc
    found (Local op slot wide ∷ insns) (suc k) e = found insns k e
    found (Want op want ∷ insns) zero e = absurd cc
    found (Want op want ∷ insns) (suc k) e = found insns k e
    found (Jump op place ∷ insns) zero e = absurd cc
    found (Jump op place ∷ insns) (suc k) e = found insns k e
call_once (Plain op ∷ insns) zero one e = absurd cc
call_once (Plain op ∷ insns) (suc k) one e = ap suc (call_once insns k one e)
call_once (Byte n ∷ insns) zero one e = absurd cc
call_once (Byte n ∷ insns) (suc k) one e = ap suc (call_once insns k one e)
call_once (Short n ∷ insns) zero one e = absurd cc
call_once (Short n ∷ insns) (suc k) one e = ap suc (call_once insns k one e)
call_once (Local op slot wide ∷ insns) zero one e = absurd cc
call_once (Local op slot wide ∷ insns) (suc k) one e = ap suc (call_once insns k one e)
call_once (Want op want ∷ insns) zero one e = absurd cc
call_once (Want op want ∷ insns) (suc k) one e = ap suc (call_once insns k one e)
call_once (Jump op place ∷ insns) zero one e = absurd cc
call_once (Jump op place ∷ insns) (suc k) one e = ap suc (call_once insns k one e)

site_once : (site : Option Block) → IsSite site → calls_in (part_of site) ≡ 1
site_once None is = refl
site_once (Some block) is = is.once

joined : (sites : List (Option Block)) (at to : ℕ) (xs ys : List Origin) → at + length xs ≡ to → StandAsTold sites at xs → StandAsTold sites to ys
    → StandAsTold sites at (xs ++ ys)
joined sites at to [] ys e a b =
    let same : to ≡ at = omega (arith, e) in
    subst (λ (n : ℕ). StandAsTold sites n ys) same b
joined sites at to (x ∷ xs) ys e a b = (a.0, joined sites (at + 1) to xs ys (omega (arith, e)) a.1 b)

module _ (sites : List (Option Block)) where
  module _ (i begin : ℕ) (site : Option Block) (begins : begin ≡ slice_index (fronts_of sites) i) (stands : get_or sites i None ≡ site) (is : IsSite site) where
    item_stands : (k : ℕ) (x : BlockInsn) → slice_get (part_of site) k ≡ Some x → begin + k ≡ place_told sites (origin_of i (k, x))
    item_stands k (Plain op) e = ap (λ (n : ℕ). n + k) begins
    item_stands k (Byte n) e = ap (λ (m : ℕ). m + k) begins
    item_stands k (Short n) e = ap (λ (m : ℕ). m + k) begins
    item_stands k (Local op slot wide) e = ap (λ (n : ℕ). n + k) begins
    item_stands k (Want op want) e = ap (λ (n : ℕ). n + k) begins
    item_stands k (Jump op place) e = ap (λ (n : ℕ). n + k) begins
    item_stands k Call e =
        let own : call_place (part_of (get_or sites i None)) ≡ k =
        ap (λ (s : Option Block). call_place (part_of s)) stands ∙ call_once (part_of site) k (site_once site is) e in
        omega (arith, begins, own)

    items_stand : (k : ℕ) (items : List BlockInsn) → ((j : ℕ) (x : BlockInsn) → slice_get items j ≡ Some x → slice_get (part_of site) (k + j) ≡ Some x)
        → StandAsTold sites (begin + k) (map (origin_of i) (enumerate_from k items))
    items_stand k [] sub = tt
    items_stand k (x ∷ items) sub =
        let n : k + 0 ≡ k = omega arith in
        let here : slice_get (part_of site) k ≡ Some x = ap (slice_get (part_of site)) (sym n) ∙ sub 0 x refl in
        let at : begin + (k + 1) ≡ begin + k + 1 = omega arith in
        let rest = items_stand (k + 1) items (λ j y e.
        let next : k + 1 + j ≡ k + suc j = omega arith in
        ap (slice_get (part_of site)) next ∙ sub (suc j) y e) in
        (item_stands k x here, subst (λ (p : ℕ). StandAsTold sites p (map (origin_of i) (enumerate_from (k + 1) items))) at rest)

    part_stands : StandAsTold sites begin (part_origins (i, site))
    part_stands =
        let n : begin + 0 ≡ begin = omega arith in
        let all = items_stand 0 (part_of site) (λ j x e.
        let zero_add : 0 + j ≡ j = omega arith in
        ap (slice_get (part_of site)) zero_add ∙ e) in
        subst (λ (p : ℕ). StandAsTold sites p (part_origins (i, site))) n all

  parts_stand : (i begin : ℕ) (left : List (Option Block)) → AllByRecursion IsSite left
      → ((j : ℕ) → get_or left j None ≡ get_or sites (i + j) None)
      → ((j : ℕ) → j < length left → slice_index (fronts_from begin left) j ≡ slice_index (fronts_of sites) (i + j))
      → StandAsTold sites begin (flat_map part_origins (enumerate_from i left))
  parts_stand i begin [] all a c = tt
  parts_stand i begin (s ∷ left) all a c =
      let n : i + 0 ≡ i = omega arith in
      let begins : begin ≡ slice_index (fronts_of sites) i = c 0 (omega arith) ∙ ap (slice_index (fronts_of sites)) n in
      let stands : get_or sites i None ≡ s = ap (λ (m : ℕ). get_or sites m None) (sym n) ∙ sym (a 0) in
      let later = parts_stand (i + 1) (begin + length (part_of s)) left all.1
      (λ j.
      let k : i + suc j ≡ i + 1 + j = omega arith in
      a (suc j) ∙ ap (λ (m : ℕ). get_or sites m None) k)
      (λ j lt.
      let k : i + suc j ≡ i + 1 + j = omega arith in
      c (suc j) (omega (arith, lt)) ∙ ap (slice_index (fronts_of sites)) k) in
      joined sites begin (begin + length (part_of s)) (part_origins (i, s)) (flat_map part_origins (enumerate_from (i + 1) left))
      (omega (arith, part_many i s)) (part_stands i begin s begins stands all.0) later

pub all_stand : (sites : List (Option Block)) → AllByRecursion IsSite sites → StandAsTold sites 0 (origins_of sites)
all_stand sites all =
    parts_stand sites 0 0 sites all
    (λ j.
    let n : j ≡ 0 + j = omega arith in
    ap (λ (m : ℕ). get_or sites m None) n)
    (λ j lt.
    let n : j ≡ 0 + j = omega arith in
    ap (slice_index (fronts_of sites)) n)
