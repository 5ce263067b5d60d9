-- Where instructions stand, step by step.
use Rattle.std.proofs.Common.{◌≡◌, ℕ, ◌+◌, ◌-◌, ◌≤◌, ◌<◌, Bool, true, false, List, [], ◌∷◌, ◌++◌, length, get_or, take, drop, replicate, Option, Some, None, Result, refl, sym, ap, subst, ◌∙◌, append_assoc, arith}
use Rattle.std.specs.Prelude.{◌==◌}
use Rattle.std.proofs.lemmas.Bool.Decides.{nat_tests}
use Rattle.std.proofs.lemmas.List.{append-nil}
use Rattle.mon_base.proofs.Lists.{rest_is, front_is}
use Rattle.insn_codec.specs.declared.fault.CodeFault.{CodeFault}
use Rattle.insn_codec.specs.declared.insn.Insn.{Insn}
use Rattle.insn_codec.specs.declared.insn.Insn.TheVariants.{Plain, Byte, Short, Ldc, Pool, Iface, Local, Inc, Branch, GotoW, NewArray, Table, Lookup}
use Rattle.insn_codec.specs.Encoding.{size, starts_from, len_from}
use Rattle.insn_codec.specs.Reading.{ended}
use Rattle.insn_codec.specs.Targets.{marks_from}

-- ---- sizes

pub size-some : (at : ℕ) (x : Insn) → 1 ≤ size at x
size-some at (Plain op) = omega arith
size-some at (Byte n) = omega arith
size-some at (Short n) = omega arith
size-some at (Ldc index) = omega arith
size-some at (Pool op index) = omega arith
size-some at (Iface index count) = omega arith
size-some at (Local op slot false) = omega arith
size-some at (Local op slot true) = omega arith
size-some at (Inc slot by false) = omega arith
size-some at (Inc slot by true) = omega arith
size-some at (Branch op to) = omega arith
size-some at (GotoW to) = omega arith
size-some at (NewArray kind) = omega arith
size-some at (Table other low targets) = omega arith
size-some at (Lookup other keys targets) = omega arith

pub len_first : (at : ℕ) (x : Insn) (xs : List Insn) → len_from at (x ∷ xs) ≡ size at x + len_from (at + size at x) xs
unfolding len_from
len_first at x xs = refl

pub len_none : (at : ℕ) → len_from at [] ≡ 0
unfolding len_from
len_none at = refl

pub len_push : (xs : List Insn) (at : ℕ) (x : Insn) → len_from at (xs ++ x ∷ []) ≡ len_from at xs + size (at + len_from at xs) x
unfolding len_from
len_push [] at x =
    let n : at + 0 ≡ at = omega arith in
    rw n (omega arith)
len_push (y ∷ ys) at x =
    let so_far = len_push ys (at + size at y) x in
    let far : at + size at y + len_from (at + size at y) ys ≡ at + (size at y + len_from (at + size at y) ys) = omega arith in
    let so_far' : len_from (at + size at y) (ys ++ x ∷ []) ≡ len_from (at + size at y) ys + size (at + (size at y + len_from (at + size at y) ys)) x = subst (λ (n : ℕ). len_from (at + size at y) (ys ++ x ∷ []) ≡ len_from (at + size at y) ys + size n x) far so_far in
    omega (arith, so_far')

-- ---- a list of which the first is taken

pub nothing : {X : Type 0} (left : List X) → length left < 1 → left ≡ []
nothing [] none = refl
nothing (x ∷ xs) none = absurd (omega arith)

-- the length of what is left
pub len_splits : (left : List Insn) (first : Insn) (at : ℕ) → 1 ≤ length left → first ≡ get_or left 0 first
    → len_from at left ≡ size at first + len_from (at + size at first) (take (length left - 1) (drop 1 left))
len_splits left first at some is =
    ap (λ (xs : List Insn). len_from at xs) (front_is left first some is) ∙ len_first at first (take (length left - 1) (drop 1 left))

pub len_step : (left : List Insn) (first : Insn) (at len total : ℕ) → 1 ≤ length left → first ≡ get_or left 0 first
    → len ≡ size at first → at + len_from at left ≡ total → at + len + len_from (at + len) (take (length left - 1) (drop 1 left)) ≡ total
len_step left first at len total some is l so_far =
    let all = len_splits left first at some is in
    subst (λ (n : ℕ). at + n + len_from (at + n) (take (length left - 1) (drop 1 left)) ≡ total) (sym l) (omega (arith, all, so_far))

pub fits_size : (left : List Insn) (first : Insn) (at total : ℕ) → 1 ≤ length left → first ≡ get_or left 0 first
    → at + len_from at left ≡ total → at + size at first ≤ total
fits_size left first at total some is so_far = omega (arith, len_splits left first at some is, so_far)

-- ---- starts

pub starts_first : (at : ℕ) (x : Insn) (xs : List Insn) → starts_from at (x ∷ xs) ≡ at ∷ starts_from (at + size at x) xs
unfolding starts_from
starts_first at x xs = refl

pub starts_none : (at : ℕ) → starts_from at [] ≡ at ∷ []
unfolding starts_from
starts_none at = refl

pub starts_step : (front : List ℕ) (left : List Insn) (first : Insn) (at len : ℕ) (total : List ℕ) → 1 ≤ length left
    → first ≡ get_or left 0 first → len ≡ size at first → front ++ starts_from at left ≡ total
    → (front ++ at ∷ []) ++ starts_from (at + len) (take (length left - 1) (drop 1 left)) ≡ total
starts_step front left first at len total some is l so_far =
    let rest = take (length left - 1) (drop 1 left) in
    let all : starts_from at left ≡ at ∷ starts_from (at + size at first) rest = ap (starts_from at) (front_is left first some is) ∙ starts_first at first rest in
    subst (λ (n : ℕ). (front ++ at ∷ []) ++ starts_from (at + n) rest ≡ total) (sym l) (
    append_assoc front (at ∷ []) (starts_from (at + size at first) rest) ∙ ap (λ (xs : List ℕ). front ++ xs) (sym all) ∙ so_far)

pub starts_done : (front : List ℕ) (left : List Insn) (at : ℕ) (total : List ℕ) → length left < 1
    → front ++ starts_from at left ≡ total → front ++ at ∷ [] ≡ total
starts_done front left at total none so_far =
    let all : starts_from at left ≡ at ∷ [] = ap (starts_from at) (nothing left none) ∙ starts_none at in
    ap (λ (xs : List ℕ). front ++ xs) (sym all) ∙ so_far

pub len_done : (left : List Insn) (at total : ℕ) → length left < 1 → at + len_from at left ≡ total → at ≡ total
len_done left at total none so_far =
    let all : len_from at left ≡ 0 = ap (len_from at) (nothing left none) ∙ len_none at in
    omega (arith, all, so_far)

-- ---- marks

abbrev marked : ℕ → ℕ → List (Option ℕ)
marked number len = Some number ∷ replicate (len - 1) None

marks_first : (number at : ℕ) (x : Insn) (xs : List Insn)
    → marks_from number at (x ∷ xs) ≡ marked number (size at x) ++ marks_from (number + 1) (at + size at x) xs
unfolding marks_from
marks_first number at x xs = refl

marks_none : (number at : ℕ) → marks_from number at [] ≡ []
unfolding marks_from
marks_none number at = refl

pub marks_step : (front : List (Option ℕ)) (left : List Insn) (first : Insn) (number at len : ℕ) (total : List (Option ℕ)) → 1 ≤ length left
    → first ≡ get_or left 0 first → len ≡ size at first → front ++ marks_from number at left ≡ total
    → (front ++ (Some number ∷ replicate (len - 1) None)) ++ marks_from (number + 1) (at + len) (take (length left - 1) (drop 1 left)) ≡ total
marks_step front left first number at len total some is l so_far =
    let rest = take (length left - 1) (drop 1 left) in
    let all : marks_from number at left ≡ marked number (size at first) ++ marks_from (number + 1) (at + size at first) rest = ap (marks_from number at) (front_is left first some is) ∙ marks_first number at first rest in
    subst (λ (n : ℕ). (front ++ marked number n) ++ marks_from (number + 1) (at + n) rest ≡ total) (sym l) (
    append_assoc front (marked number (size at first)) (marks_from (number + 1) (at + size at first) rest) ∙ ap (λ (xs : List (Option ℕ)). front ++ xs) (sym all) ∙ so_far)

pub marks_done : (front : List (Option ℕ)) (left : List Insn) (number at : ℕ) (total : List (Option ℕ)) → length left < 1
    → front ++ marks_from number at left ≡ total → front ≡ total
marks_done front left number at total none so_far =
    let all : marks_from number at left ≡ [] = ap (marks_from number at) (nothing left none) ∙ marks_none number at in
    sym (append-nil front) ∙ ap (λ (xs : List (Option ℕ)). front ++ xs) (sym all) ∙ so_far

-- ---- the end

pub ended_on : (at : ℕ) (x : Insn) (xs : List Insn) → 1 ≤ length xs → ended at (x ∷ xs) ≡ ended (at + size at x) xs
ended_on at x xs some =
    let more : (length xs == 0) ≡ false = grind (arith, nat_tests) in
    rw more refl

pub two_left : {X : Type 0} (left : List X) (b : Bool) → 1 ≤ length left → b ≡ (length (take (length left - 1) (drop 1 left)) == 0)
    → b ≡ false → 2 ≤ length left
two_left [] b some is more = absurd (omega arith)
two_left (x ∷ xs) b some is more =
    let test : (length xs == 0) ≡ false = rw (rest_is x xs) at (sym is ∙ more) in
    grind (arith, nat_tests)

pub ended_step : (left : List Insn) (first : Insn) (at len : ℕ) (total : Result (Unit {0}) CodeFault) → 2 ≤ length left
    → first ≡ get_or left 0 first → len ≡ size at first → ended at left ≡ total
    → ended (at + len) (take (length left - 1) (drop 1 left)) ≡ total
ended_step [] first at len total some is l so_far = absurd (omega arith)
ended_step (x ∷ xs) first at len total some is l so_far =
    let long : 1 ≤ length xs = omega arith in
    let l' : size at x ≡ len = ap (size at) (sym is) ∙ sym l in
    rw (rest_is x xs, ← l') (sym (ended_on at x xs long) ∙ so_far)
