-- What was read is written as it was.
use Rattle.std.proofs.Common.{◌≡◌, ℕ, ℤ, ◌+◌, ◌≤◌, true, List, [], ◌∷◌, length, Result, Ok, refl, sym, ap, subst, ◌∙◌, FitsSigned, arith}
use Rattle.std.specs.Int.{w16, w32}
use Rattle.std.specs.List.{AllByRecursion}
use Rattle.std.proofs.lemmas.Int.{ints}
use Rattle.std.proofs.lemmas.List.{length-append}
use Rattle.insn_codec.specs.declared.fault.CodeOverflow.{CodeOverflow}
use Rattle.insn_codec.specs.declared.insn.Insn.{Insn}
use Rattle.insn_codec.specs.declared.insn.Insn.TheVariants.{Branch, GotoW, Table, Lookup}
use Rattle.insn_codec.specs.Encoding.{size, offset, starts_of, len_from, bytes_of, bytes_from}
use Rattle.insn_codec.specs.Fits.{IsInsn, Reaches, ReachFrom, EncodesCode}
use Rattle.mon_base.specs.Answer.{Answers}
use Rattle.insn_codec.specs.declared.fault.CodeOverflow.TheVariants.{Memory}
use Rattle.insn_codec.specs.Writing.{held_by_2, held_by_4, near, far, all_far, reach, reach_from, written}
use Rattle.insn_codec.proofs.Standing.{len_first, len_none}
use Rattle.insn_codec.proofs.Putting.{far_first, far_none, reach_first, reach_none, bytes_first, bytes_none, is_written}
use Rattle.insn_codec.proofs.CodeLaws.{size_is}

held_2 : (z : ℤ) → FitsSigned w16 z → held_by_2 z ≡ true
held_2 z f = grind (arith, ints)

held_4 : (z : ℤ) → FitsSigned w32 z → held_by_4 z ≡ true
held_4 z f = grind (arith, ints)

near_held : (starts : List ℕ) (at to : ℕ) → FitsSigned w16 (offset starts at to) → near starts at to ≡ Ok tt
unfolding near
near_held starts at to f = rw (held_2 (offset starts at to) f) refl

far_held : (starts : List ℕ) (at to : ℕ) → FitsSigned w32 (offset starts at to) → far starts at to ≡ Ok tt
unfolding far
far_held starts at to f = rw (held_4 (offset starts at to) f) refl

all_held : (starts : List ℕ) (at : ℕ) (ts : List ℕ) → AllByRecursion (λ to. FitsSigned w32 (offset starts at to)) ts → all_far starts at ts ≡ Ok tt
all_held starts at [] h = far_none starts at
all_held starts at (t ∷ ts) h = far_first starts at t ts ∙ rw (far_held starts at t h.0, all_held starts at ts h.1) refl

insn_held : (starts : List ℕ) (at : ℕ) (a : Insn) → Reaches starts at a → reach starts at a ≡ Ok tt
insn_held starts at (Branch op to) f = near_held starts at to f
insn_held starts at (GotoW to) f = far_held starts at to f
insn_held starts at (Table other low targets) f = rw (far_held starts at other f.0, all_held starts at targets f.1) refl
insn_held starts at (Lookup other keys targets) f = rw (far_held starts at other f.0, all_held starts at targets f.1) refl
insn_held starts at a f = refl

insns_held : (starts : List ℕ) (at : ℕ) (xs : List Insn) → ReachFrom starts at xs → reach_from starts at xs ≡ Ok tt
insns_held starts at [] h = reach_none starts at
insns_held starts at (x ∷ xs) h = reach_first starts at x xs ∙ rw (insn_held starts at x h.0, insns_held starts (at + size at x) xs h.1) refl

pub len_is : (starts : List ℕ) (at : ℕ) (xs : List Insn) → AllByRecursion IsInsn xs → length (bytes_from starts at xs) ≡ len_from at xs
len_is starts at [] h = ap length (bytes_none starts at) ∙ sym (len_none at)
len_is starts at (x ∷ xs) h =
    let one = size_is starts at x h.0 in
    let others = len_is starts (at + size at x) xs h.1 in
    ap length (bytes_first starts at x xs) ∙ length-append (bytes_of starts at x) (bytes_from starts (at + size at x) xs)
    ∙ ap (λ (n : ℕ). n + length (bytes_from starts (at + size at x) xs)) one ∙ ap (λ (n : ℕ). size at x + n) others ∙ sym (len_first at x xs)

pub is_back : (insns : List Insn) (r : Result (List ℕ) CodeOverflow) (bytes : List ℕ) → Answers Memory r (written insns) → EncodesCode bytes insns
    → length bytes ≤ 65535 → Answers Memory r (Ok bytes)
is_back insns r bytes told s short =
    let len = len_is (starts_of insns) 0 insns s.fits.each in
    let all : len_from 0 insns ≤ 65535 = omega (arith, len, ap length s.is, short) in
    let is : written insns ≡ Ok bytes = is_written insns all (insns_held (starts_of insns) 0 insns s.fits.offsets) ∙ ap (λ (bs : List ℕ). Ok bs) (sym s.is) in
    subst (λ (w : Result (List ℕ) CodeOverflow). Answers Memory r w) is told
