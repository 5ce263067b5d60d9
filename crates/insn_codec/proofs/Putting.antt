-- Writing one after the other, as a loop does.
use Rattle.std.proofs.Common.{◌≡◌, ℕ, ℤ, pos, ◌+◌, ◌-◌, ◌≤◌, ◌<◌, true, false, List, [], ◌∷◌, ◌++◌, length, get_or, take, drop, Result, Ok, Err, refl, sym, ap, subst, ◌∙◌, append_assoc, add-one, drop-cons, inl, inr, arith}
use Rattle.std.specs.List.{flat_map, AllByRecursion}
use Rattle.std.specs.Prelude.{nat_le, IfOk}
use Rattle.std.proofs.lemmas.Bool.{cases_lt}
use Rattle.std.proofs.lemmas.Bool.Decides.{nat_tests}
use Rattle.std.proofs.lemmas.List.{append-nil, length-drop}
use Rattle.mon_base.specs.Reading.{◌>>=◌}
use Rattle.insn_codec.specs.declared.fault.CodeOverflow.{CodeOverflow}
use Rattle.insn_codec.specs.declared.fault.CodeOverflow.TheVariants.{Length, Memory}
use Rattle.insn_codec.specs.declared.insn.Case.{Case}
use Rattle.insn_codec.specs.declared.insn.Insn.{Insn}
use Rattle.insn_codec.specs.Encoding.{i4, size, offset, case, cases, bytes_of, bytes_from, starts_of, len_from, encoding}
use Rattle.insn_codec.specs.Fits.{IsInsn}
use Rattle.mon_base.specs.Answer.{Fails, Answers}
use Rattle.mon_base.proofs.Answering.{failed, along}
use Rattle.mon_base.proofs.Lists.{rest_is, front_at, front_is}
use Rattle.insn_codec.specs.Writing.{far, all_far, reach, reach_from, written}
use Rattle.insn_codec.proofs.Standing.{nothing}

-- ---- offsets of four bytes

abbrev offsets : List ℕ → ℕ → List ℕ → List ℕ
offsets starts at targets = flat_map (λ to. i4 (offset starts at to)) targets

pub far_first : (starts : List ℕ) (at to : ℕ) (targets : List ℕ)
    → all_far starts at (to ∷ targets) ≡ (far starts at to >>= λ _. all_far starts at targets)
unfolding all_far
far_first starts at to targets = refl

pub far_none : (starts : List ℕ) (at : ℕ) → all_far starts at [] ≡ Ok tt
unfolding all_far
far_none starts at = refl

far_next : (starts : List ℕ) (at to : ℕ) (targets : List ℕ) → far starts at to ≡ Ok tt → all_far starts at (to ∷ targets) ≡ all_far starts at targets
far_next starts at to targets h = far_first starts at to targets ∙ rw h refl

abbrev left_of : List ℕ → List ℕ
left_of left = take (length left - 1) (drop 1 left)

pub far_ends : (e : CodeOverflow) (starts : List ℕ) (at : ℕ) (left : List ℕ) (total : Result (Unit {0}) CodeOverflow) → 1 ≤ length left
    → Fails Memory e (far starts at (get_or left 0 0)) → all_far starts at left ≡ total → Fails Memory e total
far_ends e starts at left total some h so_far =
    let one = failed Memory e (far starts at (get_or left 0 0)) (λ _. all_far starts at (left_of left)) h in
    let same : (far starts at (get_or left 0 0) >>= λ _. all_far starts at (left_of left)) ≡ all_far starts at left = sym (far_first starts at (get_or left 0 0) (left_of left)) ∙ ap (all_far starts at) (sym (front_at left 0 some)) in
    along Memory e (far starts at (get_or left 0 0) >>= λ _. all_far starts at (left_of left)) total (same ∙ so_far) one

pub far_on : (starts : List ℕ) (at : ℕ) (left : List ℕ) (total : Result (Unit {0}) CodeOverflow) → 1 ≤ length left
    → far starts at (get_or left 0 0) ≡ Ok tt → all_far starts at left ≡ total → all_far starts at (left_of left) ≡ total
far_on starts at left total some h so_far =
    sym (far_next starts at (get_or left 0 0) (left_of left) h) ∙ ap (all_far starts at) (sym (front_at left 0 some)) ∙ so_far

pub offsets_on : (starts : List ℕ) (at : ℕ) (out left total : List ℕ) → 1 ≤ length left
    → out ++ offsets starts at left ≡ total → (out ++ i4 (offset starts at (get_or left 0 0))) ++ offsets starts at (left_of left) ≡ total
offsets_on starts at out left total some so_far =
    append_assoc out (i4 (offset starts at (get_or left 0 0))) (offsets starts at (left_of left))
    ∙ ap (λ (xs : List ℕ). out ++ offsets starts at xs) (sym (front_at left 0 some)) ∙ so_far

pub far_done : (starts : List ℕ) (at : ℕ) (left : List ℕ) (total : Result (Unit {0}) CodeOverflow) → length left < 1
    → all_far starts at left ≡ total → total ≡ Ok tt
far_done starts at left total none so_far = sym so_far ∙ ap (all_far starts at) (nothing left none) ∙ far_none starts at

pub offsets_done : (starts : List ℕ) (at : ℕ) (out left total : List ℕ) → length left < 1
    → out ++ offsets starts at left ≡ total → out ≡ total
offsets_done starts at out left total none so_far =
    sym (append-nil out) ∙ ap (λ (xs : List ℕ). out ++ offsets starts at xs) (sym (nothing left none)) ∙ so_far

-- ---- keys and offsets

far_drop : (starts : List ℕ) (at i : ℕ) (targets : List ℕ) → i < length targets
    → all_far starts at (drop i targets) ≡ (far starts at (get_or targets i 0) >>= λ _. all_far starts at (drop (i + 1) targets))
far_drop starts at i targets lt =
    ap (all_far starts at) (rw add-one (drop-cons targets i 0 lt)) ∙ far_first starts at (get_or targets i 0) (drop (i + 1) targets)

pub case_ends : (e : CodeOverflow) (starts : List ℕ) (at i : ℕ) (targets : List ℕ) (total : Result (Unit {0}) CodeOverflow) → i < length targets
    → Fails Memory e (far starts at (get_or targets i 0)) → all_far starts at (drop i targets) ≡ total → Fails Memory e total
case_ends e starts at i targets total lt h so_far =
    let one = failed Memory e (far starts at (get_or targets i 0)) (λ _. all_far starts at (drop (i + 1) targets)) h in
    along Memory e (far starts at (get_or targets i 0) >>= λ _. all_far starts at (drop (i + 1) targets)) total (sym (far_drop starts at i targets lt) ∙ so_far) one

pub case_far : (starts : List ℕ) (at i : ℕ) (targets : List ℕ) (total : Result (Unit {0}) CodeOverflow) → i < length targets
    → far starts at (get_or targets i 0) ≡ Ok tt → all_far starts at (drop i targets) ≡ total → all_far starts at (drop (i + 1) targets) ≡ total
case_far starts at i targets total lt h so_far =
    let one : all_far starts at (drop i targets) ≡ all_far starts at (drop (i + 1) targets) = far_drop starts at i targets lt ∙ rw h refl in
    sym one ∙ so_far

abbrev encoded : List ℕ → ℕ → List ℤ → List ℕ → List ℕ
encoded starts at keys targets = flat_map (case starts at) (cases keys targets)

cases_drop : (starts : List ℕ) (at i : ℕ) (keys : List ℤ) (targets : List ℕ) → i < length keys → i < length targets
    → encoded starts at (drop i keys) (drop i targets)
    ≡ (i4 (get_or keys i (pos 0)) ++ i4 (offset starts at (get_or targets i 0))) ++ encoded starts at (drop (i + 1) keys) (drop (i + 1) targets)
cases_drop starts at i keys targets a b =
    let one : drop i keys ≡ get_or keys i (pos 0) ∷ drop (i + 1) keys = rw add-one (drop-cons keys i (pos 0) a) in
    let two : drop i targets ≡ get_or targets i 0 ∷ drop (i + 1) targets = rw add-one (drop-cons targets i 0 b) in
    ap (λ (ks : List ℤ). encoded starts at ks (drop i targets)) one ∙ ap (λ (ts : List ℕ). encoded starts at (get_or keys i (pos 0) ∷ drop (i + 1) keys) ts) two

pub cases_on : (starts : List ℕ) (at i : ℕ) (keys : List ℤ) (targets : List ℕ) (out total : List ℕ) → i < length keys → i < length targets
    → out ++ encoded starts at (drop i keys) (drop i targets) ≡ total
    → ((out ++ i4 (get_or keys i (pos 0))) ++ i4 (offset starts at (get_or targets i 0))) ++ encoded starts at (drop (i + 1) keys) (drop (i + 1) targets) ≡ total
cases_on starts at i keys targets out total a b so_far =
    let k = i4 (get_or keys i (pos 0)) in
    let t = i4 (offset starts at (get_or targets i 0)) in
    let rest = encoded starts at (drop (i + 1) keys) (drop (i + 1) targets) in
    let one : ((out ++ k) ++ t) ++ rest ≡ out ++ ((k ++ t) ++ rest) = ap (λ (xs : List ℕ). xs ++ rest) (append_assoc out k t) ∙ append_assoc out (k ++ t) rest in
    one ∙ ap (λ (xs : List ℕ). out ++ xs) (sym (cases_drop starts at i keys targets a b)) ∙ so_far

nothing_dropped : {X : Type 0} (xs : List X) (i : ℕ) → length xs ≤ i → drop i xs ≡ []
nothing_dropped xs i le = nothing (drop i xs) (omega (arith, length-drop i xs))

no_cases : (keys : List ℤ) → cases keys [] ≡ []
no_cases [] = refl
no_cases (key ∷ keys) = refl

pub cases_far_done : (starts : List ℕ) (at i : ℕ) (targets : List ℕ) (total : Result (Unit {0}) CodeOverflow) → length targets ≤ i
    → all_far starts at (drop i targets) ≡ total → total ≡ Ok tt
cases_far_done starts at i targets total le so_far =
    sym so_far ∙ ap (all_far starts at) (nothing_dropped targets i le) ∙ far_none starts at

pub cases_done : (starts : List ℕ) (at i : ℕ) (keys : List ℤ) (targets : List ℕ) (out total : List ℕ) → length targets ≤ i
    → out ++ encoded starts at (drop i keys) (drop i targets) ≡ total → out ≡ total
cases_done starts at i keys targets out total le so_far =
    let none : cases (drop i keys) (drop i targets) ≡ [] = ap (cases (drop i keys)) (nothing_dropped targets i le) ∙ no_cases (drop i keys) in
    sym (append-nil out) ∙ ap (λ (xs : List Case). out ++ flat_map (case starts at) xs) (sym none) ∙ so_far

-- ---- instructions

pub reach_first : (starts : List ℕ) (at : ℕ) (x : Insn) (xs : List Insn)
    → reach_from starts at (x ∷ xs) ≡ (reach starts at x >>= λ _. reach_from starts (at + size at x) xs)
unfolding reach_from
reach_first starts at x xs = refl

pub reach_none : (starts : List ℕ) (at : ℕ) → reach_from starts at [] ≡ Ok tt
unfolding reach_from
reach_none starts at = refl

pub bytes_first : (starts : List ℕ) (at : ℕ) (x : Insn) (xs : List Insn)
    → bytes_from starts at (x ∷ xs) ≡ bytes_of starts at x ++ bytes_from starts (at + size at x) xs
unfolding bytes_from
bytes_first starts at x xs = refl

pub bytes_none : (starts : List ℕ) (at : ℕ) → bytes_from starts at [] ≡ []
unfolding bytes_from
bytes_none starts at = refl

abbrev others_of : List Insn → List Insn
others_of left = take (length left - 1) (drop 1 left)

pub reach_ends : (e : CodeOverflow) (starts : List ℕ) (at : ℕ) (left : List Insn) (first : Insn) (total : Result (Unit {0}) CodeOverflow)
    → 1 ≤ length left → first ≡ get_or left 0 first → Fails Memory e (reach starts at first) → reach_from starts at left ≡ total → Fails Memory e total
reach_ends e starts at left first total some is h so_far =
    let one = failed Memory e (reach starts at first) (λ _. reach_from starts (at + size at first) (others_of left)) h in
    let same : (reach starts at first >>= λ _. reach_from starts (at + size at first) (others_of left)) ≡ reach_from starts at left = sym (reach_first starts at first (others_of left)) ∙ ap (reach_from starts at) (sym (front_is left first some is)) in
    along Memory e (reach starts at first >>= λ _. reach_from starts (at + size at first) (others_of left)) total (same ∙ so_far) one

pub reach_on : (starts : List ℕ) (at len : ℕ) (left : List Insn) (first : Insn) (total : Result (Unit {0}) CodeOverflow)
    → 1 ≤ length left → first ≡ get_or left 0 first → len ≡ size at first → reach starts at first ≡ Ok tt → reach_from starts at left ≡ total
    → reach_from starts (at + len) (others_of left) ≡ total
reach_on starts at len left first total some is l h so_far =
    let one : reach_from starts at (first ∷ others_of left) ≡ reach_from starts (at + size at first) (others_of left) = reach_first starts at first (others_of left) ∙ rw h refl in
    let two : reach_from starts (at + size at first) (others_of left) ≡ total = sym one ∙ ap (reach_from starts at) (sym (front_is left first some is)) ∙ so_far in
    subst (λ (n : ℕ). reach_from starts (at + n) (others_of left) ≡ total) (sym l) two

pub bytes_on : (starts : List ℕ) (at len : ℕ) (left : List Insn) (first : Insn) (out total : List ℕ)
    → 1 ≤ length left → first ≡ get_or left 0 first → len ≡ size at first → out ++ bytes_from starts at left ≡ total
    → (out ++ bytes_of starts at first) ++ bytes_from starts (at + len) (others_of left) ≡ total
bytes_on starts at len left first out total some is l so_far =
    let one : (out ++ bytes_of starts at first) ++ bytes_from starts (at + size at first) (others_of left) ≡ out ++ bytes_from starts at (first ∷ others_of left) = append_assoc out (bytes_of starts at first) (bytes_from starts (at + size at first) (others_of left)) ∙ ap (λ (xs : List ℕ). out ++ xs) (sym (bytes_first starts at first (others_of left))) in
    let two : (out ++ bytes_of starts at first) ++ bytes_from starts (at + size at first) (others_of left) ≡ total = one ∙ ap (λ (xs : List Insn). out ++ bytes_from starts at xs) (sym (front_is left first some is)) ∙ so_far in
    subst (λ (n : ℕ). (out ++ bytes_of starts at first) ++ bytes_from starts (at + n) (others_of left) ≡ total) (sym l) two

pub reach_done : (starts : List ℕ) (at : ℕ) (left : List Insn) (total : Result (Unit {0}) CodeOverflow) → length left < 1
    → reach_from starts at left ≡ total → total ≡ Ok tt
reach_done starts at left total none so_far = sym so_far ∙ ap (reach_from starts at) (nothing left none) ∙ reach_none starts at

pub bytes_done : (starts : List ℕ) (at : ℕ) (left : List Insn) (out total : List ℕ) → length left < 1
    → out ++ bytes_from starts at left ≡ total → out ≡ total
bytes_done starts at left out total none so_far =
    let empty : bytes_from starts at left ≡ [] = ap (bytes_from starts at) (nothing left none) ∙ bytes_none starts at in
    sym (append-nil out) ∙ ap (λ (xs : List ℕ). out ++ xs) (sym empty) ∙ so_far

pub first_fits : (left : List Insn) (first : Insn) → 1 ≤ length left → first ≡ get_or left 0 first → AllByRecursion IsInsn left → IsInsn first
first_fits [] first some is h = absurd (omega arith)
first_fits (x ∷ xs) first some is h = subst IsInsn (sym is) h.0

pub others_fit : (left : List Insn) → 1 ≤ length left → AllByRecursion IsInsn left → AllByRecursion IsInsn (others_of left)
others_fit [] some h = absurd (omega arith)
others_fit (x ∷ xs) some h = rw (rest_is x xs) h.1

-- ---- the code

pub is_written : (insns : List Insn) → len_from 0 insns ≤ 65535 → reach_from (starts_of insns) 0 insns ≡ Ok tt → written insns ≡ Ok (encoding insns)
unfolding written
is_written insns short held =
    let b : nat_le (len_from 0 insns) 65535 ≡ true = grind (arith, nat_tests) in
    rw (b, held) refl

pub too_long : (insns : List Insn) → 65535 < len_from 0 insns → written insns ≡ Err (Length (len_from 0 insns))
unfolding written
too_long insns long =
    let b : nat_le (len_from 0 insns) 65535 ≡ false = grind (arith, nat_tests) in
    rw b refl

after_length : (insns : List Insn) → len_from 0 insns ≤ 65535 → written insns ≡ (reach_from (starts_of insns) 0 insns >>= λ _. Ok (encoding insns))
unfolding written
after_length insns short =
    let b : nat_le (len_from 0 insns) 65535 ≡ true = grind (arith, nat_tests) in
    rw b refl

pub too_far : (insns : List Insn) (e : CodeOverflow) → len_from 0 insns ≤ 65535 → Fails Memory e (reach_from (starts_of insns) 0 insns)
    → Fails Memory e (written insns)
too_far insns e short h =
    along Memory e (reach_from (starts_of insns) 0 insns >>= λ _. Ok (encoding insns)) (written insns) (sym (after_length insns short))
    (failed Memory e (reach_from (starts_of insns) 0 insns) (λ _. Ok (encoding insns)) h)

abbrev refused : CodeOverflow → Result (List ℕ) CodeOverflow
refused e = Err e

abbrev given : List ℕ → Result (List ℕ) CodeOverflow
given bytes = Ok bytes

not_both : (e : CodeOverflow) (bytes : List ℕ) → refused e ≡ Ok bytes → ⊥
not_both e bytes h = cc

held_is : (r : Result (Unit {0}) CodeOverflow) (bytes other : List ℕ) → (r >>= λ _. given bytes) ≡ Ok other → bytes ≡ other
held_is (Ok done) bytes other h = cc
held_is (Err e) bytes other h = absurd (not_both e other h)

pub written_is : (insns : List Insn) (r : Result (List ℕ) CodeOverflow) → Answers Memory r (written insns) → IfOk r (λ bytes. bytes ≡ encoding insns)
written_is insns (Err e) h = tt
written_is insns (Ok bytes) h =
    elim (cases_lt 65535 (len_from 0 insns)) [
      | inl long ↦ absurd (not_both (Length (len_from 0 insns)) bytes (sym (too_long insns long) ∙ h))
      | inr short ↦ sym (held_is (reach_from (starts_of insns) 0 insns) (encoding insns) bytes (sym (after_length insns short) ∙ h))
    ]

pub told_long : (insns : List Insn) (r : Result (List ℕ) CodeOverflow) → Answers Memory r (written insns) → 65535 < len_from 0 insns
    → Answers Memory r (Err (Length (len_from 0 insns)))
told_long insns r h long = subst (λ (w : Result (List ℕ) CodeOverflow). Answers Memory r w) (too_long insns long) h
