-- The instructions of a code, one after another.
use Rattle.std.proofs.Common.{◌≡◌, ℕ, zero, suc, ◌+◌, ◌-◌, ◌≤◌, ◌<◌, Bool, true, false, List, [], ◌∷◌, ◌++◌, length, Ok, Err, refl, sym, ap, subst, ◌∙◌, arith}
use Rattle.std.specs.Prelude.{◌==◌, IsTrue, ◌↔◌}
use Rattle.std.proofs.lemmas.List.{append-nil}
use Rattle.std.proofs.lemmas.Bool.Decides.{nat_tests}
use Rattle.std.proofs.lemmas.Bool.{false≢true}
use Rattle.mon_base.specs.Reading.{Place, ◌>>=◌}
use Rattle.insn_codec.specs.declared.fault.CodeFault.{CodeFault}
use Rattle.insn_codec.specs.declared.insn.Insn.{Insn}
use Rattle.insn_codec.specs.Encoding.{size, len_from}
use Rattle.mon_base.specs.Answer.{Fails}
use Rattle.mon_base.proofs.Answering.{failed, along}
use Rattle.mon_base.proofs.Loop.{with_front, regroup}
use Rattle.insn_codec.specs.declared.fault.CodeFault.TheVariants.{Memory}
use Rattle.insn_codec.specs.Reading.{Finder, Read, any, among, insn_at, insns_at, insns_of, ended, code_of}
use Rattle.insn_codec.proofs.Standing.{size-some, len_push}

some_bytes : (bytes : List ℕ) → 1 ≤ length bytes → (length bytes == 0) ≡ false
some_bytes bytes h = grind (arith, nat_tests)

no_bytes : (bytes : List ℕ) → length bytes ≡ 0 → bytes ≡ []
no_bytes [] h = refl
no_bytes (b ∷ bs) h = absurd (omega arith)

unchanged : (read : Read (List Insn)) → with_front [] read ≡ read
unchanged (Ok x) = refl
unchanged (Err e) = refl

-- by the test of the end
pub left_over : (b : Bool) (bytes : List ℕ) → (IsTrue b ↔ (bytes ≡ [])) → b ≡ false → 1 ≤ length bytes
left_over b [] h off = absurd (false≢true (sym off ∙ h.1 refl))
left_over b (x ∷ xs) h off = omega arith

pub no_more : (b : Bool) (bytes : List ℕ) → (IsTrue b ↔ (bytes ≡ [])) → b ≡ true → length bytes ≡ 0
no_more b bytes h on = ap length (h.0 on)

-- a step of reading, where bytes are left
pub first_of : (find : Finder) (n : ℕ) (p : Place) → 1 ≤ length p.rest
    → insns_at find (suc n) p ≡ (insn_at find p.at p >>= λ first. insns_at find n first.1 >>= λ others. Ok (first.0 ∷ others.0, others.1))
unfolding insns_at
first_of find n p some = rw (some_bytes p.rest some) refl

pub none_left : (find : Finder) (n : ℕ) (p : Place) → p.rest ≡ [] → insns_at find n p ≡ Ok ([], p)
unfolding insns_at
none_left find zero p none = refl
none_left find (suc n) p none = rw none refl

pub none_asked : (find : Finder) (p : Place) → insns_at find 0 p ≡ Ok ([], p)
unfolding insns_at
none_asked find p = refl

pub goes_on : (find : Finder) (front : List Insn) (count i : ℕ) (p : Place) (x : Insn) (next : Place) (total : Read (List Insn))
    → i < count → 1 ≤ length p.rest → insn_at find p.at p ≡ Ok (x, next)
    → with_front front (insns_at find (count - i) p) ≡ total
    → with_front (front ++ x ∷ []) (insns_at find (count - (i + 1)) next) ≡ total
goes_on find front count i p x next total lt some h so_far =
    let k : count - i ≡ suc (count - (i + 1)) = omega arith in
    let one : with_front front (insns_at find (count - i) p) ≡ with_front (front ++ x ∷ []) (insns_at find (count - (i + 1)) next) = rw (k, first_of find (count - (i + 1)) p some, h) (regroup front x (insns_at find (count - (i + 1)) next)) in
    sym one ∙ so_far

pub ends : (find : Finder) (e : CodeFault) (front : List Insn) (count i : ℕ) (p : Place) (total : Read (List Insn))
    → i < count → 1 ≤ length p.rest → Fails Memory e (insn_at find p.at p)
    → with_front front (insns_at find (count - i) p) ≡ total → Fails Memory e total
ends find e front count i p total lt some h so_far is_told =
    let k : count - i ≡ suc (count - (i + 1)) = omega arith in
    let one : with_front front (insns_at find (count - i) p) ≡ Err e = rw (k, first_of find (count - (i + 1)) p some, h is_told) refl in
    sym so_far ∙ one

abbrev pub whole : Finder → List ℕ → Read (List Insn)
whole find code = insns_at find (length code) (record { at = 0; rest = code })

pub all_read : (find : Finder) (code : List ℕ) (all : List Insn) (next : Place) → whole find code ≡ Ok (all, next) → insns_of find code ≡ Ok all
unfolding insns_of
all_read find code all next h = rw h refl

pub not_read : (find : Finder) (code : List ℕ) (e : CodeFault) → Fails Memory e (whole find code) → Fails Memory e (insns_of find code)
unfolding insns_of
not_read find code e h = failed Memory e (whole find code) (λ all. Ok all.0) h

-- Nothing is left.
pub done : (find : Finder) (front : List Insn) (code : List ℕ) (i : ℕ) (p : Place) → length p.rest ≡ 0
    → with_front front (insns_at find (length code - i) p) ≡ whole find code → insns_of find code ≡ Ok front
done find front code i p none so_far =
    let empty : p.rest ≡ [] = no_bytes p.rest none in
    let one : with_front front (insns_at find (length code - i) p) ≡ Ok (front, p) = rw (none_left find (length code - i) p empty) (ap (λ (xs : List Insn). Ok (xs, p)) (append-nil front)) in
    all_read find code front p (sym so_far ∙ one)

pub starts_off : (find : Finder) (code : List ℕ) (p : Place) (q : Place) → p ≡ q → with_front [] (insns_at find (length code - 0) p) ≡ insns_at find (length code) q
starts_off find code p q is =
    let n : length code - 0 ≡ length code = omega arith in
    rw (n, is) (unchanged (insns_at find (length code) q))

-- where the instructions so far end
pub len_on : (front : List Insn) (x : Insn) (at next : ℕ) → at ≡ len_from 0 front → next ≡ at + size at x
    → next ≡ len_from 0 (front ++ x ∷ [])
len_on front x at next here moved =
    let more = len_push front 0 x in
    let zero_and : 0 + len_from 0 front ≡ at = omega (arith, here) in
    let more' : len_from 0 (front ++ x ∷ []) ≡ len_from 0 front + size at x = subst (λ (n : ℕ). len_from 0 (front ++ x ∷ []) ≡ len_from 0 front + size n x) zero_and more in
    omega (arith, more', here, moved)

pub moved_on : (x : Insn) (i at next : ℕ) → i ≤ at → next ≡ at + size at x → i + 1 ≤ next
moved_on x i at next le moved = omega (arith, size-some at x, moved)

-- ---- the code

pub code_read : (code : List ℕ) (shapes all : List Insn) → insns_of any code ≡ Ok shapes → insns_of (among shapes) code ≡ Ok all
    → ended 0 all ≡ Ok tt → code_of code ≡ Ok all
unfolding code_of
code_read code shapes all one two end = rw (one, two, end) refl

pub no_shapes : (code : List ℕ) (e : CodeFault) → Fails Memory e (insns_of any code) → Fails Memory e (code_of code)
unfolding code_of
no_shapes code e h = failed Memory e (insns_of any code) (λ shapes. insns_of (among shapes) code >>= λ all. ended 0 all >>= λ _. Ok all) h

after_shapes : (code : List ℕ) (shapes : List Insn) → insns_of any code ≡ Ok shapes
    → code_of code ≡ (insns_of (among shapes) code >>= λ all. ended 0 all >>= λ _. Ok all)
unfolding code_of
after_shapes code shapes one = rw one refl

pub no_targets : (code : List ℕ) (shapes : List Insn) (e : CodeFault) → insns_of any code ≡ Ok shapes
    → Fails Memory e (insns_of (among shapes) code) → Fails Memory e (code_of code)
no_targets code shapes e one h =
    let two = failed Memory e (insns_of (among shapes) code) (λ all. ended 0 all >>= λ _. Ok all) h in
    along Memory e (insns_of (among shapes) code >>= λ all. ended 0 all >>= λ _. Ok all) (code_of code) (sym (after_shapes code shapes one)) two

after_targets : (code : List ℕ) (shapes all : List Insn) → insns_of any code ≡ Ok shapes → insns_of (among shapes) code ≡ Ok all
    → code_of code ≡ (ended 0 all >>= λ _. Ok all)
unfolding code_of
after_targets code shapes all one two = rw (one, two) refl

pub no_end : (code : List ℕ) (shapes all : List Insn) (e : CodeFault) → insns_of any code ≡ Ok shapes → insns_of (among shapes) code ≡ Ok all
    → Fails Memory e (ended 0 all) → Fails Memory e (code_of code)
no_end code shapes all e one two h =
    let three = failed Memory e (ended 0 all) (λ _. Ok all) h in
    along Memory e (ended 0 all >>= λ _. Ok all) (code_of code) (sym (after_targets code shapes all one two)) three
