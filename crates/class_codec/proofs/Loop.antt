-- Reading one after the other, as a loop does.
use Rattle.std.proofs.Common.{◌≡◌, ℕ, suc, ◌-◌, ◌+◌, ◌≤◌, ◌<◌, Bool, List, [], ◌∷◌, ◌++◌, length, get_or, take, drop, Result, Ok, Err, refl, sym, ap, subst, ◌∙◌, arith}
use Rattle.std.specs.List.{flat_map}
use Rattle.std.proofs.lemmas.List.{append-nil, length-append}
use Rattle.mon_base.specs.Reading.{Place}
use Rattle.mon_base.specs.Answer.{Fails}
use Rattle.mon_base.proofs.Loop.{with_front, regroup}
use Rattle.mon_base.proofs.Lists.{front_is}
use Rattle.class_codec.specs.declared.fault.ClassFault.{ClassFault}
use Rattle.class_codec.specs.declared.fault.ClassFault.TheVariants.{Memory}
use Rattle.class_codec.specs.declared.tree.Const.{Const}
use Rattle.class_codec.specs.Encoding.{constant}
use Rattle.class_codec.specs.Fits.{takes_two}
use Rattle.class_codec.specs.Reading.{Read, place_at, places_at, constant_checked, all_checked}

-- ---- places of the pool

pub place_goes_on : (front : List Const) (second : Bool) (count i : ℕ) (place : Place) (x : Const) (next : Place)
    (total : Read (List Const)) → i < count → place_at second (count - i - 1) place ≡ Ok (x, next)
    → with_front front (places_at second (count - i) place) ≡ total
    → with_front (front ++ x ∷ []) (places_at (takes_two x) (count - (i + 1)) next) ≡ total
unfolding places_at
place_goes_on front second count i place x next total lt h so_far =
    let k : count - i ≡ suc (count - (i + 1)) = omega arith in
    let j : count - i - 1 ≡ count - (i + 1) = omega arith in
    let h' : place_at second (count - (i + 1)) place ≡ Ok (x, next) = rw (← j) h in
    let one : with_front front (places_at second (count - i) place) ≡ with_front (front ++ x ∷ []) (places_at (takes_two x) (count - (i + 1)) next) = rw (k, h') (regroup front x (places_at (takes_two x) (count - (i + 1)) next)) in
    sym one ∙ so_far

pub place_ends : (e : ClassFault) (front : List Const) (second : Bool) (count i : ℕ) (place : Place) (total : Read (List Const))
    → i < count → Fails Memory e (place_at second (count - i - 1) place)
    → with_front front (places_at second (count - i) place) ≡ total → Fails Memory e total
unfolding places_at
place_ends e front second count i place total lt h so_far is_told =
    let k : count - i ≡ suc (count - (i + 1)) = omega arith in
    let j : count - i - 1 ≡ count - (i + 1) = omega arith in
    let h' : place_at second (count - (i + 1)) place ≡ Err e = rw (← j) (h is_told) in
    let one : with_front front (places_at second (count - i) place) ≡ Err e = rw (k, h') refl in
    sym so_far ∙ one

pub places_done : (front : List Const) (second : Bool) (count i : ℕ) (place : Place) (total : Read (List Const)) → count ≤ i
    → with_front front (places_at second (count - i) place) ≡ total → total ≡ Ok (front, place)
unfolding places_at
places_done front second count i place total le so_far =
    let k : count - i ≡ 0 = omega arith in
    let one : with_front front (places_at second (count - i) place) ≡ Ok (front, place) = rw k (ap (λ (ns : List Const). Ok (ns, place)) (append-nil front)) in
    sym so_far ∙ one

-- ---- the indices of the pool

pub checks_on : (pool : List Const) (first : Const) (others : List Const) (at : ℕ) (total : Result (Unit {0}) ClassFault)
    → constant_checked pool first at ≡ Ok tt
    → all_checked pool (first ∷ others) at ≡ total → all_checked pool others (at + length (constant first)) ≡ total
unfolding all_checked
checks_on pool first others at total h so_far =
    let one : all_checked pool (first ∷ others) at ≡ all_checked pool others (at + length (constant first)) = rw h refl in
    sym one ∙ so_far

pub check_ends : (e : ClassFault) (pool : List Const) (first : Const) (others : List Const) (at : ℕ)
    (total : Result (Unit {0}) ClassFault) → Fails Memory e (constant_checked pool first at)
    → all_checked pool (first ∷ others) at ≡ total → Fails Memory e total
unfolding all_checked
check_ends e pool first others at total h so_far is_told =
    let one : all_checked pool (first ∷ others) at ≡ Err e = rw (h is_told) refl in
    sym so_far ∙ one

pub checks_done : (pool : List Const) (at : ℕ) (total : Result (Unit {0}) ClassFault) → all_checked pool [] at ≡ total → total ≡ Ok tt
unfolding all_checked
checks_done pool at total so_far = sym so_far

pub checks_step : (pool left : List Const) (first : Const) (at len : ℕ) (total : Result (Unit {0}) ClassFault) → 1 ≤ length left
    → first ≡ get_or left 0 first
    → len ≡ length (constant first) → constant_checked pool first at ≡ Ok tt → all_checked pool left at ≡ total
    → all_checked pool (take (length left - 1) (drop 1 left)) (at + len) ≡ total
checks_step pool left first at len total some is l h so_far =
    let same = front_is left first some is in
    let so_far' : all_checked pool (first ∷ take (length left - 1) (drop 1 left)) at ≡ total = ap (λ (xs : List Const). all_checked pool xs at) (sym same) ∙ so_far in
    subst (λ (n : ℕ). all_checked pool (take (length left - 1) (drop 1 left)) (at + n) ≡ total) (sym l) (checks_on pool first (take (length left - 1) (drop 1 left)) at total h so_far')

pub sum_step : (left : List Const) (first : Const) (at len total : ℕ) → 1 ≤ length left → first ≡ get_or left 0 first
    → len ≡ length (constant first) → at + length (flat_map constant left) ≡ total
    → at + len + length (flat_map constant (take (length left - 1) (drop 1 left))) ≡ total
sum_step left first at len total some is l so_far =
    let same = front_is left first some is in
    let all : length (flat_map constant left) ≡ length (constant first) + length (flat_map constant (take (length left - 1) (drop 1 left))) = ap (λ (xs : List Const). length (flat_map constant xs)) same ∙ length-append (constant first) (flat_map constant (take (length left - 1) (drop 1 left))) in
    omega (arith, all, l, so_far)

pub check_step_ends : (e : ClassFault) (pool left : List Const) (first : Const) (at : ℕ) (total : Result (Unit {0}) ClassFault)
    → 1 ≤ length left → first ≡ get_or left 0 first
    → Fails Memory e (constant_checked pool first at) → all_checked pool left at ≡ total → Fails Memory e total
check_step_ends e pool left first at total some is h so_far =
    let same = front_is left first some is in
    let so_far' : all_checked pool (first ∷ take (length left - 1) (drop 1 left)) at ≡ total = ap (λ (xs : List Const). all_checked pool xs at) (sym same) ∙ so_far in
    check_ends e pool first (take (length left - 1) (drop 1 left)) at total h so_far'

pub checks_end : (pool left : List Const) (at : ℕ) (total : Result (Unit {0}) ClassFault) → length left < 1
    → all_checked pool left at ≡ total → total ≡ Ok tt
checks_end pool [] at total none so_far = checks_done pool at total so_far
checks_end pool (x ∷ xs) at total none so_far = absurd (omega arith)

pub constants_push : (pool : List Const) (x : Const)
    → length (flat_map constant (pool ++ x ∷ [])) ≡ length (flat_map constant pool) + length (constant x)
constants_push [] x = simp append-nil (omega arith)
constants_push (c ∷ pool) x =
    let so_far = constants_push pool x in
    omega (arith, so_far, length-append (constant c) (flat_map constant (pool ++ x ∷ [])), length-append (constant c) (flat_map constant pool))
