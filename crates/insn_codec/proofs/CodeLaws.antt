-- A code is read exactly as it is encoded.
use Rattle.std.proofs.Common.{◌≡◌, ℕ, zero, suc, ℤ, ◌+◌, ◌*◌, ◌≤◌, Bool, true, false, not, List, [], ◌∷◌, ◌++◌, length, replicate, Result, Ok, Err, refl, sym, ap, subst, ◌∙◌, inl, inr, arith}
use Rattle.std.specs.Prelude.{IfOk}
use Rattle.std.specs.List.{flat_map, AllByRecursion}
use Rattle.std.proofs.lemmas.Bool.{cases_lt, false≢true}
use Rattle.std.proofs.lemmas.List.{length-append, length-replicate}
use Rattle.mon_base.specs.Reading.{Place, IsBytes, ◌>>=◌, need}
use Rattle.mon_base.proofs.Reading.{bind_ok, ok_is, after}
use Rattle.insn_codec.specs.declared.fault.CodeFault.{CodeFault}
use Rattle.insn_codec.specs.declared.fault.CodeFault.TheVariants as faults
use Rattle.insn_codec.specs.declared.insn.Insn.{Insn}
use Rattle.insn_codec.specs.declared.insn.Insn.TheVariants.{Plain, Byte, Short, Ldc, Pool, Iface, Local, Inc, Branch, GotoW, NewArray, Table, Lookup}
use Rattle.insn_codec.specs.Opcodes.{goes_on}
use Rattle.mon_base.specs.Widths.{u1}
use Rattle.insn_codec.specs.Encoding.{i4, range, keyed, opcode_of, padding, size, starts_of, offset, case, cases, bytes_of, bytes_from}
use Rattle.insn_codec.specs.Fits.{IsInsn, AimsWithin, ReachFrom, Ends, EncodesCode}
use Rattle.mon_base.specs.Answer.{Answers}
use Rattle.insn_codec.specs.Reading.{Finder, any, among, insn_at, insns_at, insns_of, ended, code_of}
use Rattle.insn_codec.proofs.Laws.{Leads}
use Rattle.insn_codec.proofs.InsnForms.{FitsInsn}
use Rattle.insn_codec.proofs.InsnLaws.{insn_is}
use Rattle.insn_codec.proofs.Finding.{leads, Alike, same_finder, insn_any}
use Rattle.insn_codec.proofs.Sequence.{first_of, none_left, none_asked, all_read, code_read}
use Rattle.insn_codec.proofs.Standing.{size-some, nothing, ended_on}
use Rattle.insn_codec.proofs.Putting.{bytes_first, bytes_none}
use Rattle.insn_codec.specs.declared.opcodes.TheConstants.{TABLESWITCH, LOOKUPSWITCH}

-- ---- sizes

four_each : {X : Type 0} (encode : X → List ℕ) → ((x : X) → length (encode x) ≡ 4) → (xs : List X) → length (flat_map encode xs) ≡ 4 * length xs
four_each encode each [] = omega arith
four_each encode each (x ∷ xs) = omega (arith, each x, four_each encode each xs, length-append (encode x) (flat_map encode xs))

eight_each : {X : Type 0} (encode : X → List ℕ) → ((x : X) → length (encode x) ≡ 8) → (xs : List X) → length (flat_map encode xs) ≡ 8 * length xs
eight_each encode each [] = omega arith
eight_each encode each (x ∷ xs) = omega (arith, each x, eight_each encode each xs, length-append (encode x) (flat_map encode xs))

len_cases : (ks : List ℤ) (ts : List ℕ) → length ks ≡ length ts → length (cases ks ts) ≡ length ts
len_cases [] [] e = refl
len_cases [] (t ∷ ts) e = absurd (omega arith)
len_cases (k ∷ ks) [] e = absurd (omega arith)
len_cases (k ∷ ks) (t ∷ ts) e = ap suc (len_cases ks ts (omega arith))

switch_len : (op : ℕ) (zeros other rest : List ℕ) → length other ≡ 4
    → length ((u1 op ++ (zeros ++ other)) ++ rest) ≡ 5 + length zeros + length rest
switch_len op zeros other rest four =
    omega (arith, four, length-append (u1 op ++ (zeros ++ other)) rest, length-append (u1 op) (zeros ++ other), length-append zeros other)

sum_of : (front each n zeros pad rest : ℕ) → zeros ≡ pad → rest ≡ front + each * n → 5 + zeros + rest ≡ 5 + front + pad + each * n
sum_of front each n len pad rest z r = omega (arith, z, r)

pub size_is : (starts : List ℕ) (at : ℕ) (a : Insn) → IsInsn a → length (bytes_of starts at a) ≡ size at a
size_is starts at (Plain op) f = refl
size_is starts at (Byte n) f = refl
size_is starts at (Short n) f = refl
size_is starts at (Ldc index) f = refl
size_is starts at (Pool op index) f = refl
size_is starts at (Iface index count) f = refl
size_is starts at (Local op slot false) f = refl
size_is starts at (Local op slot true) f = refl
size_is starts at (Inc slot by false) f = refl
size_is starts at (Inc slot by true) f = refl
size_is starts at (Branch op to) f = refl
size_is starts at (GotoW to) f = refl
size_is starts at (NewArray kind) f = refl
size_is starts at (Table other low targets) f =
    let many = four_each (λ to. i4 (offset starts at to)) (λ to. refl) targets in
    let zeros = length-replicate {A = ℕ} (padding at) 0 in
    let rest : length (range starts at low targets) ≡ 8 + length (flat_map (λ to. i4 (offset starts at to)) targets) = omega arith in
    switch_len TABLESWITCH (replicate (padding at) 0) (i4 (offset starts at other)) (range starts at low targets) refl
    ∙ sum_of 8 4 (length targets) (length (replicate (padding at) 0)) (padding at) (length (range starts at low targets)) zeros (omega (arith, rest, many))
size_is starts at (Lookup other keys targets) f =
    let many = eight_each (case starts at) (λ one. refl) (cases keys targets) in
    let len = len_cases keys targets f.same in
    let zeros = length-replicate {A = ℕ} (padding at) 0 in
    let rest : length (keyed starts at keys targets) ≡ 4 + length (flat_map (case starts at) (cases keys targets)) = omega arith in
    switch_len LOOKUPSWITCH (replicate (padding at) 0) (i4 (offset starts at other)) (keyed starts at keys targets) refl
    ∙ sum_of 4 8 (length targets) (length (replicate (padding at) 0)) (padding at) (length (keyed starts at keys targets)) zeros (omega (arith, rest, many, len))

-- ---- one after another

-- The instructions, which stand from `at` on, fit in a code of n.
abbrev FitsFrom : List ℕ → ℕ → ℕ → List Insn → Type 0
FitsFrom starts n at [] = Unit {0}
FitsFrom starts n at (first ∷ others) = FitsInsn starts n at first × FitsFrom starts n (at + size at first) others

abbrev Encodes : List ℕ → ℕ → ℕ → List Insn → List ℕ → Type 0
Encodes starts n at xs bytes = (bytes ≡ bytes_from starts at xs) × FitsFrom starts n at xs

nothing_encoded : (starts : List ℕ) (n at : ℕ) (bytes : List ℕ) (xs : List Insn) → bytes ≡ [] → [] ≡ xs → Encodes starts n at xs bytes
nothing_encoded starts n at bytes xs none is =
    subst (λ (ys : List Insn). Encodes starts n at ys bytes) is (none ∙ sym (bytes_none starts at), tt)

insns_takes : (find : Finder) (starts : List ℕ) (n : ℕ) → Leads find starts n → (fuel : ℕ) (p : Place) (xs : List Insn) (next : Place)
    → IsBytes p.rest → length p.rest ≤ fuel → insns_at find fuel p ≡ Ok (xs, next) → Encodes starts n p.at xs p.rest
insns_takes find starts n leads zero p xs next fits short e =
    let none : p.rest ≡ [] = nothing p.rest (omega arith) in
    let made : List Insn × Place = ([], p) in
    let is = ok_is CodeFault made (xs, next) (sym (none_left find 0 p none) ∙ e) in
    nothing_encoded starts n p.at p.rest xs none (ap (λ (x : List Insn × Place). x.0) is)
insns_takes find starts n leads (suc fuel) p xs next fits short e =
    elim (cases_lt 0 (length p.rest)) [
      | inr empty ↦
          let none : p.rest ≡ [] = nothing p.rest (omega arith) in
          let made : List Insn × Place = ([], p) in
          let is = ok_is CodeFault made (xs, next) (sym (none_left find (suc fuel) p none) ∙ e) in
          nothing_encoded starts n p.at p.rest xs none (ap (λ (x : List Insn × Place). x.0) is)
      | inl some ↦
          let e' = sym (first_of find fuel p (omega arith)) ∙ e in
          let a = bind_ok (insn_at find p.at p) (λ first. insns_at find fuel first.1 >>= λ others. Ok (first.0 ∷ others.0, others.1)) (xs, next) e' in
          let b = bind_ok (insns_at find fuel a.0.1) (λ others. Ok (a.0.0 ∷ others.0, others.1)) (xs, next) a.2 in
          let one = (insn_is find starts n p.at leads).takes p a.0.0 a.0.1 fits a.1 in
          let len = size_is starts p.at a.0.0 one.1.0 in
          let at : a.0.1.at ≡ p.at + size p.at a.0.0 = omega (arith, one.0.moved, len) in
          let shorter : length a.0.1.rest ≤ fuel = omega (arith, ap length one.0.parts, length-append (bytes_of starts p.at a.0.0) a.0.1.rest, len, size-some p.at a.0.0) in
          let two = insns_takes find starts n leads fuel a.0.1 b.0.0 b.0.1 one.0.fits shorter b.1 in
          let two' = subst (λ (k : ℕ). Encodes starts n k b.0.0 a.0.1.rest) at two in
          let all : p.rest ≡ bytes_from starts p.at (a.0.0 ∷ b.0.0) = one.0.parts ∙ ap (λ (bs : List ℕ). bytes_of starts p.at a.0.0 ++ bs) two'.0 ∙ sym (bytes_first starts p.at a.0.0 b.0.0) in
          let made : List Insn × Place = (a.0.0 ∷ b.0.0, b.0.1) in
          let is = ok_is CodeFault made (xs, next) b.2 in
          subst (λ (ys : List Insn). Encodes starts n p.at ys p.rest) (ap (λ (x : List Insn × Place). x.0) is) (all, (one.1, two'.1))
    ]

insns_again : (find : Finder) (starts : List ℕ) (n : ℕ) → Leads find starts n → (xs : List Insn) (fuel : ℕ) (p : Place)
    → Encodes starts n p.at xs p.rest → length p.rest ≤ fuel → (next : Place) × (insns_at find fuel p ≡ Ok (xs, next))
insns_again find starts n leads [] fuel p h short = (p, none_left find fuel p (h.0 ∙ bytes_none starts p.at))
insns_again find starts n leads (x ∷ xs) zero p h short =
    let len = size_is starts p.at x h.1.0.0 in
    absurd (omega (arith, ap length (h.0 ∙ bytes_first starts p.at x xs), length-append (bytes_of starts p.at x) (bytes_from starts (p.at + size p.at x) xs), len, size-some p.at x))
insns_again find starts n leads (x ∷ xs) (suc fuel) p h short =
    let len = size_is starts p.at x h.1.0.0 in
    let rest = bytes_from starts (p.at + size p.at x) xs in
    let e = h.0 ∙ bytes_first starts p.at x xs in
    let one = (insn_is find starts n p.at leads).again p x rest h.1.0 tt e in
    let mid : Place = after p (bytes_of starts p.at x) rest in
    let at : p.at + size p.at x ≡ mid.at = omega (arith, len) in
    let shorter : length mid.rest ≤ fuel = omega (arith, ap length e, length-append (bytes_of starts p.at x) rest, len, size-some p.at x) in
    let long : 1 ≤ length p.rest = omega (arith, ap length e, length-append (bytes_of starts p.at x) rest, len, size-some p.at x) in
    let encoded : Encodes starts n mid.at xs mid.rest = subst (λ (k : ℕ). Encodes starts n k xs rest) at (refl, h.1.1) in
    let two = insns_again find starts n leads xs fuel mid encoded shorter in
    let step : insns_at find (suc fuel) p ≡ Ok (x ∷ xs, two.0) = first_of find fuel p long ∙ rw (one, two.1) refl in
    (two.0, step)

-- ---- other targets

any_step : (fuel : ℕ) (p : Place) (x : Insn) (p1 : Place) (xs : List Insn) (p2 : Place) → 1 ≤ length p.rest → insn_at any p.at p ≡ Ok (x, p1)
    → insns_at any fuel p1 ≡ Ok (xs, p2) → insns_at any (suc fuel) p ≡ Ok (x ∷ xs, p2)
any_step fuel p x p1 xs p2 some a b = first_of any fuel p some ∙ rw (a, b) refl

insns_any : (find : Finder) (fuel : ℕ) (p : Place) (xs : List Insn) (next : Place) → insns_at find fuel p ≡ Ok (xs, next)
    → (ys : List Insn) × (insns_at any fuel p ≡ Ok (ys, next)) × Alike ys xs
insns_any find zero p xs next e =
    let made : List Insn × Place = ([], p) in
    let is = ok_is CodeFault made (xs, next) (sym (none_asked find p) ∙ e) in
    ([], none_asked any p ∙ ap (λ (x : List Insn × Place). Ok ([], x.1)) is, subst (λ (ys : List Insn). Alike [] ys) (ap (λ (x : List Insn × Place). x.0) is) tt)
insns_any find (suc fuel) p xs next e =
    elim (cases_lt 0 (length p.rest)) [
      | inr empty ↦
          let none : p.rest ≡ [] = nothing p.rest (omega arith) in
          let made : List Insn × Place = ([], p) in
          let is = ok_is CodeFault made (xs, next) (sym (none_left find (suc fuel) p none) ∙ e) in
          ([], none_left any (suc fuel) p none ∙ ap (λ (x : List Insn × Place). Ok ([], x.1)) is, subst (λ (ys : List Insn). Alike [] ys) (ap (λ (x : List Insn × Place). x.0) is) tt)
      | inl some ↦
          let e' = sym (first_of find fuel p (omega arith)) ∙ e in
          let a = bind_ok (insn_at find p.at p) (λ first. insns_at find fuel first.1 >>= λ others. Ok (first.0 ∷ others.0, others.1)) (xs, next) e' in
          let b = bind_ok (insns_at find fuel a.0.1) (λ others. Ok (a.0.0 ∷ others.0, others.1)) (xs, next) a.2 in
          let one = insn_any find p.at p a.0.0 a.0.1 a.1 in
          let two = insns_any find fuel a.0.1 b.0.0 b.0.1 b.1 in
          let made : List Insn × Place = (a.0.0 ∷ b.0.0, b.0.1) in
          let is = ok_is CodeFault made (xs, next) b.2 in
          let step = any_step fuel p one.0 a.0.1 two.0 b.0.1 (omega arith) one.1 two.1 in
          (one.0 ∷ two.0, step ∙ ap (λ (x : List Insn × Place). Ok (one.0 ∷ two.0, x.1)) is, subst (λ (ys : List Insn). Alike (one.0 ∷ two.0) ys) (ap (λ (x : List Insn × Place). x.0) is) (one.2, two.2))
    ]

pub code_any : (find : Finder) (code : List ℕ) (xs : List Insn) → insns_of find code ≡ Ok xs → (ys : List Insn) × (insns_of any code ≡ Ok ys) × Alike ys xs
unfolding insns_of
code_any find code xs e =
    let a = bind_ok (insns_at find (length code) (record { at = 0; rest = code })) (λ all. Ok all.0) xs e in
    let h = insns_any find (length code) (record { at = 0; rest = code }) a.0.0 a.0.1 a.1 in
    let is = ok_is CodeFault a.0.0 xs a.2 in
    (h.0, all_read any code h.0 a.0.1 h.1, subst (λ (zs : List Insn). Alike h.0 zs) is h.2)

-- ---- the code

code_takes : (find : Finder) (starts : List ℕ) (n : ℕ) (code : List ℕ) (xs : List Insn) → Leads find starts n → IsBytes code
    → insns_of find code ≡ Ok xs → Encodes starts n 0 xs code
unfolding insns_of
code_takes find starts n code xs leads fits e =
    let a = bind_ok (insns_at find (length code) (record { at = 0; rest = code })) (λ all. Ok all.0) xs e in
    let is = ok_is CodeFault a.0.0 xs a.2 in
    let h = insns_takes find starts n leads (length code) (record { at = 0; rest = code }) a.0.0 a.0.1 fits (omega arith) a.1 in
    subst (λ (ys : List Insn). Encodes starts n 0 ys code) is h

each_fits : (starts : List ℕ) (n at : ℕ) (xs : List Insn) → FitsFrom starts n at xs → AllByRecursion IsInsn xs
each_fits starts n at [] h = tt
each_fits starts n at (x ∷ xs) h = (h.0.0, each_fits starts n (at + size at x) xs h.1)

each_aims : (starts : List ℕ) (n at : ℕ) (xs : List Insn) → FitsFrom starts n at xs → AllByRecursion (AimsWithin n) xs
each_aims starts n at [] h = tt
each_aims starts n at (x ∷ xs) h = (h.0.1.0, each_aims starts n (at + size at x) xs h.1)

each_reaches : (starts : List ℕ) (n at : ℕ) (xs : List Insn) → FitsFrom starts n at xs → ReachFrom starts at xs
each_reaches starts n at [] h = tt
each_reaches starts n at (x ∷ xs) h = (h.0.1.1, each_reaches starts n (at + size at x) xs h.1)

all_fit : (starts : List ℕ) (n at : ℕ) (xs : List Insn) → AllByRecursion IsInsn xs → AllByRecursion (AimsWithin n) xs → ReachFrom starts at xs → FitsFrom starts n at xs
all_fit starts n at [] a b c = tt
all_fit starts n at (x ∷ xs) a b c = ((a.0, (b.0, c.0)), all_fit starts n (at + size at x) xs a.1 b.1 c.1)

not_true : (b : Bool) → not b ≡ true → b ≡ false
not_true true h = absurd (false≢true h)
not_true false h = refl

not_false : (b : Bool) → b ≡ false → not b ≡ true
not_false b h = rw h refl

need_holds : (b : Bool) (fault : CodeFault) → need b fault ≡ Ok tt → b ≡ true
need_holds true fault e = refl
need_holds false fault e = absurd cc

ends_when : (at : ℕ) (xs : List Insn) → ended at xs ≡ Ok tt → Ends xs
ends_when at [] h = tt
ends_when at (x ∷ []) h = not_true (goes_on (opcode_of x)) (need_holds (not (goes_on (opcode_of x))) (faults.End at) h)
ends_when at (x ∷ y ∷ ys) h = ends_when (at + size at x) (y ∷ ys) (sym (ended_on at x (y ∷ ys) (omega arith)) ∙ h)

when_ends : (at : ℕ) (xs : List Insn) → Ends xs → ended at xs ≡ Ok tt
when_ends at [] h = refl
when_ends at (x ∷ []) h = ap (λ (b : Bool). need b (faults.End at)) (not_false (goes_on (opcode_of x)) h)
when_ends at (x ∷ y ∷ ys) h = ended_on at x (y ∷ ys) (omega arith) ∙ when_ends (at + size at x) (y ∷ ys) h

encodes_code : (code : List ℕ) (shapes all : List Insn) → IsBytes code → insns_of any code ≡ Ok shapes → insns_of (among shapes) code ≡ Ok all
    → ended 0 all ≡ Ok tt → EncodesCode code all
encodes_code code shapes all fits one two three =
    let h = code_any (among shapes) code all two in
    let same : h.0 ≡ shapes = ok_is CodeFault h.0 shapes (sym h.1 ∙ one) in
    let alike : Alike shapes all = subst (λ (ys : List Insn). Alike ys all) same h.2 in
    let two' : insns_of (among all) code ≡ Ok all = subst (λ (find : Finder). insns_of find code ≡ Ok all) (same_finder shapes all alike) two in
    let s = code_takes (among all) (starts_of all) (length all) code all (leads all) fits two' in
    record {
      is = s.0;
      fits = record {
        each = each_fits (starts_of all) (length all) 0 all s.1;
        targets = each_aims (starts_of all) (length all) 0 all s.1;
        offsets = each_reaches (starts_of all) (length all) 0 all s.1;
        ends = ends_when 0 all three;
      };
    }

code_encodes : (code : List ℕ) (all : List Insn) → IsBytes code → code_of code ≡ Ok all → EncodesCode code all
unfolding code_of
code_encodes code all fits e =
    let a = bind_ok (insns_of any code) (λ shapes. insns_of (among shapes) code >>= λ all. ended 0 all >>= λ _. Ok all) all e in
    let b = bind_ok (insns_of (among a.0) code) (λ all. ended 0 all >>= λ _. Ok all) all a.2 in
    let c = bind_ok (ended 0 b.0) (λ _. Ok b.0) all b.2 in
    let is = ok_is CodeFault b.0 all c.2 in
    subst (λ (xs : List Insn). EncodesCode code xs) is (encodes_code code a.0 b.0 fits a.1 b.1 c.1)

pub encoded_code : (code : List ℕ) (all : List Insn) → EncodesCode code all → code_of code ≡ Ok all
encoded_code code all s =
    let fits = all_fit (starts_of all) (length all) 0 all s.fits.each s.fits.targets s.fits.offsets in
    let h = insns_again (among all) (starts_of all) (length all) (leads all) all (length code) (record { at = 0; rest = code }) (s.is, fits) (omega arith) in
    let two : insns_of (among all) code ≡ Ok all = all_read (among all) code all h.0 h.1 in
    let g = code_any (among all) code all two in
    let two' : insns_of (among g.0) code ≡ Ok all = subst (λ (find : Finder). insns_of find code ≡ Ok all) (sym (same_finder g.0 all g.2)) two in
    code_read code g.0 all g.1 two' (when_ends 0 all s.fits.ends)

pub is_found : (code : List ℕ) (r : Result (List Insn) CodeFault) → IsBytes code → Answers faults.Memory r (code_of code) → IfOk r (λ all. EncodesCode code all)
is_found code (Ok all) fits given = code_encodes code all fits given
is_found code (Err e) fits given = tt

pub is_only : (code : List ℕ) (r : Result (List Insn) CodeFault) (all : List Insn) → Answers faults.Memory r (code_of code) → EncodesCode code all → Answers faults.Memory r (Ok all)
is_only code r all given s = subst (λ (read : Result (List Insn) CodeFault). Answers faults.Memory r read) (encoded_code code all s) given

pub is_each : (code : List ℕ) (r : Result (List Insn) CodeFault) → IsBytes code → Answers faults.Memory r (code_of code) → IfOk r (λ all. AllByRecursion IsInsn all)
is_each code (Ok all) fits given = (code_encodes code all fits given).fits.each
is_each code (Err e) fits given = tt
