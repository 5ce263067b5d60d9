-- The keys of a lookupswitch ascend.
use Rattle.std.proofs.Common.{◌≡◌, ℤ, pos, ◌+ℤ◌, ◌-◌, ◌≤◌, ◌<◌, Bool, true, false, List, [], ◌∷◌, length, map, get_or, take, drop, refl, sym, ap, ◌∙◌, FitsSigned, arith}
use Rattle.std.specs.Prelude.{int_lt, int_le}
use Rattle.std.specs.Int.{w32, w64}
use mir.Val.{to_z, of_z}
use Rattle.std.proofs.lemmas.Int.{ints}
use Rattle.mon_base.proofs.Lists.{front_at}
use Rattle.insn_codec.specs.declared.insn.Case.{Case}
use Rattle.insn_codec.specs.Reading.{ascend_from}

widened : (k : ℤ) → FitsSigned w32 k → to_z w64 (of_z w64 (to_z w32 (of_z w32 k))) ≡ k
widened k f = omega (arith, ints)

widened_next : (k : ℤ) → FitsSigned w32 k → to_z w64 (of_z w64 (to_z w64 (of_z w64 (to_z w32 (of_z w32 k))) +ℤ pos 1)) ≡ k +ℤ pos 1
widened_next k f = omega (arith, ints)

not_below : (a b : ℤ) → int_lt a b ≡ false → int_le b a ≡ true
not_below a b h = grind (arith, ints)

below : (a b : ℤ) → int_lt a b ≡ true → int_le b a ≡ false
below a b h = grind (arith, ints)

abbrev keys : List Case → List ℤ
keys cases = map (λ one. one.key) cases

step : (x : Case) (xs : List Case) (least : ℤ) (total : Bool) → int_le least x.key ≡ true
    → ascend_from least (keys (x ∷ xs)) ≡ total → ascend_from (x.key +ℤ pos 1) (keys xs) ≡ total
unfolding ascend_from
step x xs least total h so_far =
    let one : ascend_from least (keys (x ∷ xs)) ≡ ascend_from (x.key +ℤ pos 1) (keys xs) = rw h refl in
    sym one ∙ so_far

stop : (x : Case) (xs : List Case) (least : ℤ) (total : Bool) → int_le least x.key ≡ false
    → ascend_from least (keys (x ∷ xs)) ≡ total → false ≡ total
unfolding ascend_from
stop x xs least total h so_far =
    let one : ascend_from least (keys (x ∷ xs)) ≡ false = rw h refl in
    sym one ∙ so_far

pub ascends_on : (left : List Case) (d : Case) (least : ℤ) (total : Bool) → 1 ≤ length left → FitsSigned w32 (get_or left 0 d).key
    → int_lt (to_z w64 (of_z w64 (to_z w32 (of_z w32 (get_or left 0 d).key)))) least ≡ false
    → ascend_from least (keys left) ≡ total
    → ascend_from (to_z w64 (of_z w64 (to_z w64 (of_z w64 (to_z w32 (of_z w32 (get_or left 0 d).key))) +ℤ pos 1))) (keys (take (length left - 1) (drop 1 left))) ≡ total
ascends_on left d least total some fits h so_far =
    let k = (get_or left 0 d).key in
    let same = front_at left d some in
    let h' : int_le least k ≡ true = not_below k least (rw (← widened k fits) h) in
    let so_far' : ascend_from least (keys (get_or left 0 d ∷ take (length left - 1) (drop 1 left))) ≡ total = ap (λ (xs : List Case). ascend_from least (keys xs)) (sym same) ∙ so_far in
    rw (widened_next k fits) (step (get_or left 0 d) (take (length left - 1) (drop 1 left)) least total h' so_far')

pub ascends_no : (left : List Case) (d : Case) (least : ℤ) (total : Bool) → 1 ≤ length left → FitsSigned w32 (get_or left 0 d).key
    → int_lt (to_z w64 (of_z w64 (to_z w32 (of_z w32 (get_or left 0 d).key)))) least ≡ true
    → ascend_from least (keys left) ≡ total → false ≡ total
ascends_no left d least total some fits h so_far =
    let k = (get_or left 0 d).key in
    let same = front_at left d some in
    let h' : int_le least k ≡ false = below k least (rw (← widened k fits) h) in
    let so_far' : ascend_from least (keys (get_or left 0 d ∷ take (length left - 1) (drop 1 left))) ≡ total = ap (λ (xs : List Case). ascend_from least (keys xs)) (sym same) ∙ so_far in
    stop (get_or left 0 d) (take (length left - 1) (drop 1 left)) least total h' so_far'

pub ascends_all : (left : List Case) (least : ℤ) (total : Bool) → length left < 1 → ascend_from least (keys left) ≡ total → true ≡ total
unfolding ascend_from
ascends_all [] least total none so_far = so_far
ascends_all (x ∷ xs) least total none so_far = absurd (omega arith)
