-- Switches are read exactly as they are encoded.
use Rattle.std.proofs.Common.{◌≡◌, ℕ, zero, suc, ℤ, pos, negsuc, ◌+ℤ◌, ◌-ℤ◌, ◌+◌, ◌≤◌, ◌<◌, ◌^◌, Bool, true, false, List, [], ◌∷◌, ◌++◌, length, map, replicate, refl, sym, ap, subst, ◌∙◌, FitsSigned, arith}
use Rattle.std.specs.Prelude.{◌==◌, ◌&&◌, ◌<ℤ◌, int_le, nat_abs}
use Rattle.std.specs.Int.{w32, cast_unsigned}
use Rattle.std.specs.List.{flat_map, AllByRecursion}
use Rattle.std.proofs.lemmas.Bool.{false≢true}
use Rattle.std.proofs.lemmas.Bool.Decides.{nat_tests}
use Rattle.std.proofs.lemmas.Int.{ints}
use Rattle.std.proofs.lemmas.List.{length-replicate, length-map}
use Rattle.mon_base.proofs.Reading.{IsTail, IsReader, then, said, items, bytes_is}
use Rattle.mon_base.proofs.Readers.{tested, wrapped}
use Rattle.insn_codec.specs.declared.fault.CodeFault.TheVariants.{Cut, Form}
use Rattle.insn_codec.specs.declared.insn.Case.{Case}
use Rattle.insn_codec.specs.declared.insn.Insn.{Insn}
use Rattle.insn_codec.specs.declared.insn.Insn.TheVariants.{Table, Lookup}
use Rattle.mon_base.specs.Widths.{u4}
use Rattle.insn_codec.specs.Encoding.{i4, offset, padding, case, cases, keyed}
use Rattle.insn_codec.specs.Fits.{Ascend, FitsLookup}
use Rattle.insn_codec.specs.Reading.{Finder, padding_at, all_zero, bounds_at, ranged_at, table_at, count_at, case_at, ascend_from, ascend, cases_at, keyed_at, lookup_at}
use Rattle.insn_codec.proofs.Laws.{i4_is, Leads, FitsFar, far_is}

-- ---- numbers

nat_abs_is : (z : ℤ) → int_le (pos 0) z ≡ true → pos (nat_abs z) ≡ z
nat_abs_is (pos n) h = refl
nat_abs_is (negsuc n) h = absurd cc

at_least : (low high : ℤ) → int_le low high ≡ true → int_le (pos 0) (high -ℤ low) ≡ true
at_least low high h = grind (arith, ints)

span : (low high : ℤ) → int_le low high ≡ true → low +ℤ pos (nat_abs (high -ℤ low) + 1) -ℤ pos 1 ≡ high
span low high h =
    let is = nat_abs_is (high -ℤ low) (at_least low high h) in
    omega (arith, ints, is)

abbrev pub Bounds : Type 0
Bounds = ℤ × ℕ

abbrev pub greatest : Bounds → ℤ
greatest b = b.0 +ℤ pos b.1 -ℤ pos 1

pub record FitsBounds (b : Bounds) : Type 0 where
  pub least : FitsSigned w32 b.0
  pub some : 1 ≤ b.1
  pub most : FitsSigned w32 (greatest b)

ordered : (b : Bounds) → 1 ≤ b.1 → int_le b.0 (greatest b) ≡ true
ordered b some = grind (arith, ints)

counted_back : (b : Bounds) → 1 ≤ b.1 → nat_abs (greatest b -ℤ b.0) + 1 ≡ b.1
counted_back b some =
    let is = nat_abs_is (greatest b -ℤ b.0) (at_least b.0 (greatest b) (ordered b some)) in
    omega (arith, ints, is)

bounds_back : (low : ℤ) (b : Bounds) → b.0 ≡ low → 1 ≤ b.1 → (low, nat_abs (greatest b -ℤ low) + 1) ≡ b
bounds_back low b is some =
    let n = counted_back b some in
    rw (← is, n) refl

bounds_is : (at : ℕ) → IsReader (bounds_at at) (λ b. i4 b.0 ++ i4 (greatest b)) FitsBounds
unfolding bounds_at
bounds_is at = said (then {Fits = λ b. (1 ≤ b.1) × FitsSigned w32 (greatest b)} {known = λ _. Unit {0}} _ (i4_is at) (λ b. b.0) (λ b k. tt)
    (λ low k. tested {A = Bounds} (λ high. int_le low high) (Form at) (λ high. (low, nat_abs (high -ℤ low) + 1)) (i4_is at)
    (λ high f k e. let s = span low high e in (ap i4 (sym s), (omega arith, subst (FitsSigned w32) (sym s) f), (tt, refl)))
    (λ b f k. (greatest b, bounds_back low b k.1 f.0, f.1, tt, subst (λ (z : ℤ). int_le z (greatest b) ≡ true) k.1 (ordered b f.0)))))
    (λ b f k. (record { least = f.0; some = f.1.0; most = f.1.1 }, tt))
    (λ b f k. ((f.least, (f.some, f.most)), tt))

unsigned_is : (z : ℤ) → FitsSigned w32 z → int_le (pos 0) z ≡ true → cast_unsigned w32 z ≡ nat_abs z
unsigned_is z f h =
    let is = nat_abs_is z h in
    omega (arith, ints, is)

small : (z : ℤ) → FitsSigned w32 z → int_le (pos 0) z ≡ true → nat_abs z < 2 ^ 31
small z f h =
    let is = nat_abs_is z h in
    omega (arith, ints, is)

fits_count : (n : ℕ) → n < 2 ^ 31 → FitsSigned w32 (pos n)
fits_count n h = omega (arith, ints)

not_negative : (n : ℕ) → int_le (pos 0) (pos n) ≡ true
not_negative n = grind (arith, ints)

count_is : (at : ℕ) → IsReader (count_at at) u4 (λ n. n < 2 ^ 31)
unfolding count_at
count_is at = tested (λ z. int_le (pos 0) z) (Form at) nat_abs (i4_is at)
    (λ z f k e. (ap u4 (unsigned_is z f e), small z f e, tt))
    (λ n f k. (pos n, refl, fits_count n f, tt, not_negative n))

-- ---- padding

padding_is : (at : ℕ) → IsTail (padding_at at) (λ bytes. bytes) (λ bytes. Unit {0}) (λ bytes. length bytes ≡ padding at)
unfolding padding_at
padding_is at = bytes_is (padding at) (λ p. Cut at)

both_true : (a b : Bool) → (a && b) ≡ true → (a ≡ true) × (b ≡ true)
both_true true b h = (refl, h)
both_true false b h = absurd (false≢true h)

zeros_are : (bs : List ℕ) → all_zero bs ≡ true → replicate (length bs) 0 ≡ bs
zeros_are [] h = refl
zeros_are (b ∷ bs) h =
    let t = both_true (b == 0) (all_zero bs) h in
    let first : b ≡ 0 = grind (arith, nat_tests) in
    let others = zeros_are bs t.1 in
    rw (first, others) refl

zeros_pass : (n : ℕ) → all_zero (replicate n 0) ≡ true
zeros_pass zero = refl
zeros_pass (suc n) = zeros_pass n

zeros_here : (bs : List ℕ) (n : ℕ) → length bs ≡ n → all_zero bs ≡ true → replicate n 0 ≡ bs
zeros_here bs n len h = subst (λ (k : ℕ). replicate k 0 ≡ bs) len (zeros_are bs h)

-- ---- parts of a switch

abbrev pub is_table : Insn → Bool
is_table (Table other low targets) = true
is_table insn = false

abbrev pub is_lookup : Insn → Bool
is_lookup (Lookup other keys targets) = true
is_lookup insn = false

abbrev pub other_of : Insn → ℕ
other_of (Table other low targets) = other
other_of (Lookup other keys targets) = other
other_of insn = 0

abbrev pub low_of : Insn → ℤ
low_of (Table other low targets) = low
low_of insn = pos 0

abbrev pub keys_of : Insn → List ℤ
keys_of (Lookup other keys targets) = keys
keys_of insn = []

abbrev pub targets_of : Insn → List ℕ
targets_of (Table other low targets) = targets
targets_of (Lookup other keys targets) = targets
targets_of insn = []

table_made : (a : Insn) → is_table a ≡ true → Table (other_of a) (low_of a) (targets_of a) ≡ a
table_made (Table other low targets) h = refl
table_made insn h = absurd (false≢true h)

lookup_made : (a : Insn) → is_lookup a ≡ true → Lookup (other_of a) (keys_of a) (targets_of a) ≡ a
lookup_made (Lookup other keys targets) h = refl
lookup_made insn h = absurd (false≢true h)

-- ---- tableswitch

abbrev pub bounds_of : Insn → Bounds
bounds_of a = (low_of a, length (targets_of a))

abbrev pub after_padding : List ℕ → ℕ → Insn → List ℕ
after_padding starts at a = i4 (offset starts at (other_of a)) ++ ((i4 (bounds_of a).0 ++ i4 (greatest (bounds_of a)))
    ++ flat_map (λ to. i4 (offset starts at to)) (targets_of a))

abbrev pub FitsRanged : List ℕ → ℕ → ℕ → Insn → Type 0
FitsRanged starts n at a = FitsFar starts n at (other_of a) × (FitsBounds (bounds_of a) × AllByRecursion (FitsFar starts n at) (targets_of a))

abbrev PaddedTable : ℕ → List ℕ → Insn → Type 0
PaddedTable at pad a = (is_table a ≡ true) × (replicate (padding at) 0 ≡ pad)

ranged_back : (a : Insn) (other : ℕ) (bounds : Bounds) → is_table a ≡ true → other_of a ≡ other → bounds_of a ≡ bounds
    → Table other bounds.0 (targets_of a) ≡ a
ranged_back a other bounds t o b =
    ap (λ (n : ℕ). Table n bounds.0 (targets_of a)) (sym o) ∙ ap (λ (x : Bounds). Table (other_of a) x.0 (targets_of a)) (sym b) ∙ table_made a t

ranged_is : (find : Finder) (starts : List ℕ) (n at : ℕ) (pad : List ℕ) → Leads find starts n → length pad ≡ padding at
    → IsTail (ranged_at find at pad) (after_padding starts at) (FitsRanged starts n at) (PaddedTable at pad)
unfolding ranged_at
ranged_is find starts n at pad leads len = then {known = PaddedTable at pad} _ (far_is find starts n at leads) other_of (λ a k. tt)
    (λ other k. then _ (bounds_is at) bounds_of (λ a k. tt)
    (λ bounds k. tested {A = Insn} (λ all. all_zero pad) (Form at) (λ all. Table other bounds.0 all) (items (far_is find starts n at leads) bounds.1)
    (λ all f k e. (refl, f, (((refl, zeros_here pad (padding at) len e), refl), ap (λ (m : ℕ). (bounds.0, m)) k)))
    (λ a f k. (targets_of a, ranged_back a other bounds k.0.0.0 k.0.1 k.1, f, ap (λ (b : Bounds). b.1) k.1, subst (λ (w : List ℕ). all_zero w ≡ true) k.0.0.1 (zeros_pass (padding at))))))

pub table_is : (find : Finder) (starts : List ℕ) (n at : ℕ) → Leads find starts n
    → IsTail (table_at find at) (λ a. replicate (padding at) 0 ++ after_padding starts at a) (λ a. Unit {0} × FitsRanged starts n at a) (λ a. is_table a ≡ true)
unfolding table_at
table_is find starts n at leads = then {known = λ a. is_table a ≡ true} _ (padding_is at) (λ a. replicate (padding at) 0) (λ a k. length-replicate {A = ℕ} (padding at) 0)
    (λ pad len. ranged_is find starts n at pad leads len)

-- ---- lookupswitch

abbrev FitsCase : List ℕ → ℕ → ℕ → Case → Type 0
FitsCase starts n at c = FitsSigned w32 c.key × FitsFar starts n at c.to

case_is : (find : Finder) (starts : List ℕ) (n at : ℕ) → Leads find starts n → IsReader (case_at find at) (case starts at) (FitsCase starts n at)
unfolding case_at
case_is find starts n at leads = then {known = λ _. Unit {0}} _ (i4_is at) (λ c. c.key) (λ c k. tt)
    (λ key k. wrapped {A = Case} (λ to. record { key = key; to = to }) (far_is find starts n at leads)
    (λ to f k. (refl, f, (tt, refl)))
    (λ c f k. (c.to, rw (← k.1) refl, f, tt)))

abbrev FitsCases : List ℕ → ℕ → ℕ → List Case → Type 0
FitsCases starts n at cs = (length cs < 2 ^ 31) × AllByRecursion (FitsCase starts n at) cs

cases_is : (find : Finder) (starts : List ℕ) (n at : ℕ) → Leads find starts n
    → IsReader (cases_at find at) (λ cs. u4 (length cs) ++ flat_map (case starts at) cs) (FitsCases starts n at)
unfolding cases_at
cases_is find starts n at leads = then {known = λ _. Unit {0}} _ (count_is at) length (λ cs k. tt)
    (λ count k. said (items (case_is find starts n at leads) count) (λ cs f h. (f, (tt, h))) (λ cs f h. (f, h.1)))

abbrev keys : List Case → List ℤ
keys cs = map (λ one. one.key) cs

abbrev tos : List Case → List ℕ
tos cs = map (λ one. one.to) cs

cases_back : (cs : List Case) → cases (keys cs) (tos cs) ≡ cs
cases_back [] = refl
cases_back (c ∷ cs) = ap (λ (xs : List Case). c ∷ xs) (cases_back cs)

keys_back : (ks : List ℤ) (ts : List ℕ) → length ks ≡ length ts → keys (cases ks ts) ≡ ks
keys_back [] ts len = refl
keys_back (k ∷ ks) [] len = absurd (omega arith)
keys_back (k ∷ ks) (t ∷ ts) len = ap (λ (xs : List ℤ). k ∷ xs) (keys_back ks ts (omega arith))

tos_back : (ks : List ℤ) (ts : List ℕ) → length ks ≡ length ts → tos (cases ks ts) ≡ ts
tos_back [] [] len = refl
tos_back [] (t ∷ ts) len = absurd (omega arith)
tos_back (k ∷ ks) [] len = absurd (omega arith)
tos_back (k ∷ ks) (t ∷ ts) len = ap (λ (xs : List ℕ). t ∷ xs) (tos_back ks ts (omega arith))

all_keys : (starts : List ℕ) (n at : ℕ) (cs : List Case) → AllByRecursion (FitsCase starts n at) cs → AllByRecursion (FitsSigned w32) (keys cs)
all_keys starts n at [] h = tt
all_keys starts n at (c ∷ cs) h = (h.0.0, all_keys starts n at cs h.1)

all_tos : (starts : List ℕ) (n at : ℕ) (cs : List Case) → AllByRecursion (FitsCase starts n at) cs → AllByRecursion (FitsFar starts n at) (tos cs)
all_tos starts n at [] h = tt
all_tos starts n at (c ∷ cs) h = (h.0.1, all_tos starts n at cs h.1)

all_cases : (starts : List ℕ) (n at : ℕ) (ks : List ℤ) (ts : List ℕ) → AllByRecursion (FitsSigned w32) ks → AllByRecursion (FitsFar starts n at) ts
    → AllByRecursion (FitsCase starts n at) (cases ks ts)
all_cases starts n at [] ts a b = tt
all_cases starts n at (k ∷ ks) [] a b = tt
all_cases starts n at (k ∷ ks) (t ∷ ts) a b = ((a.0, b.0), all_cases starts n at ks ts a.1 b.1)

-- ---- the order of the keys

above : (a b : ℤ) → int_le (a +ℤ pos 1) b ≡ true → a <ℤ b
above a b h = grind (arith, ints)

at_least_next : (a b : ℤ) → a <ℤ b → int_le (a +ℤ pos 1) b ≡ true
at_least_next a b h = grind (arith, ints)

ascend_first : (least key : ℤ) (others : List ℤ) → ascend_from least (key ∷ others) ≡ int_le least key && ascend_from (key +ℤ pos 1) others
unfolding ascend_from
ascend_first least key others = refl

ascend_none : (least : ℤ) → ascend_from least [] ≡ true
unfolding ascend_from
ascend_none least = refl

ascends : (least : ℤ) (ks : List ℤ) → ascend_from least ks ≡ true → Ascend ks
ascends least [] h = tt
ascends least (a ∷ []) h = tt
ascends least (a ∷ b ∷ ks) h =
    let one = both_true (int_le least a) (ascend_from (a +ℤ pos 1) (b ∷ ks)) (sym (ascend_first least a (b ∷ ks)) ∙ h) in
    let two = both_true (int_le (a +ℤ pos 1) b) (ascend_from (b +ℤ pos 1) ks) (sym (ascend_first (a +ℤ pos 1) b ks) ∙ one.1) in
    (above a b two.0, ascends (a +ℤ pos 1) (b ∷ ks) one.1)

ascending : (least a : ℤ) (ks : List ℤ) → int_le least a ≡ true → Ascend (a ∷ ks) → ascend_from least (a ∷ ks) ≡ true
ascending least a [] h up = ascend_first least a [] ∙ rw (h, ascend_none (a +ℤ pos 1)) refl
ascending least a (b ∷ ks) h up =
    let others = ascending (a +ℤ pos 1) b ks (at_least_next a b up.0) up.1 in
    ascend_first least a (b ∷ ks) ∙ rw (h, others) refl

least_of_all : (a : ℤ) → FitsSigned w32 a → int_le (negsuc 0x7FFFFFFF) a ≡ true
least_of_all a f = grind (arith, ints)

all_ascend : (ks : List ℤ) → AllByRecursion (FitsSigned w32) ks → Ascend ks → ascend ks ≡ true
all_ascend [] fits up = ascend_none (negsuc 0x7FFFFFFF)
all_ascend (a ∷ ks) fits up = ascending (negsuc 0x7FFFFFFF) a ks (least_of_all a fits.0) up

-- ---- the switch

abbrev pub after_zeros : List ℕ → ℕ → Insn → List ℕ
after_zeros starts at a = i4 (offset starts at (other_of a)) ++ keyed starts at (keys_of a) (targets_of a)

abbrev pub FitsKeyed : List ℕ → ℕ → ℕ → Insn → Type 0
FitsKeyed starts n at a = FitsFar starts n at (other_of a) × (FitsLookup (keys_of a) (targets_of a) × AllByRecursion (FitsFar starts n at) (targets_of a))

abbrev PaddedLookup : ℕ → List ℕ → Insn → Type 0
PaddedLookup at pad a = (is_lookup a ≡ true) × (replicate (padding at) 0 ≡ pad)

keyed_same : (starts : List ℕ) (at : ℕ) (cs : List Case) → u4 (length cs) ++ flat_map (case starts at) cs ≡ keyed starts at (keys cs) (tos cs)
keyed_same starts at cs =
    let len : length (tos cs) ≡ length cs = length-map cs (λ one. one.to) in
    ap (λ (m : ℕ). u4 m ++ flat_map (case starts at) cs) (sym len) ∙ ap (λ (xs : List Case). u4 (length (tos cs)) ++ flat_map (case starts at) xs) (sym (cases_back cs))

keyed_fits : (starts : List ℕ) (n at : ℕ) (cs : List Case) → FitsCases starts n at cs → ascend (keys cs) ≡ true
    → FitsLookup (keys cs) (tos cs) × AllByRecursion (FitsFar starts n at) (tos cs)
keyed_fits starts n at cs f up = (
  record {
    each = all_keys starts n at cs f.1;
    ascend = ascends (negsuc 0x7FFFFFFF) (keys cs) up;
    same = length-map cs (λ one. one.key) ∙ sym (length-map cs (λ one. one.to));
    count = subst (λ (m : ℕ). m < 2 ^ 31) (sym (length-map cs (λ one. one.to))) f.0;
  },
  all_tos starts n at cs f.1,
)

keyed_back : (a : Insn) (other : ℕ) (cs : List Case) → is_lookup a ≡ true → other_of a ≡ other → keys cs ≡ keys_of a → tos cs ≡ targets_of a
    → Lookup other (keys cs) (tos cs) ≡ a
keyed_back a other cs is o ks ts =
    ap (λ (n : ℕ). Lookup n (keys cs) (tos cs)) (sym o) ∙ ap (λ (xs : List ℤ). Lookup (other_of a) xs (tos cs)) ks
    ∙ ap (λ (xs : List ℕ). Lookup (other_of a) (keys_of a) xs) ts ∙ lookup_made a is

len_cases : (ks : List ℤ) (ts : List ℕ) → length ks ≡ length ts → length (cases ks ts) ≡ length ts
len_cases ks ts len = sym (length-map (cases ks ts) (λ one. one.to)) ∙ ap length (tos_back ks ts len)

keyed_is : (find : Finder) (starts : List ℕ) (n at : ℕ) (pad : List ℕ) → Leads find starts n → length pad ≡ padding at
    → IsTail (keyed_at find at pad) (after_zeros starts at) (FitsKeyed starts n at) (PaddedLookup at pad)
unfolding keyed_at
keyed_is find starts n at pad leads len = then {known = PaddedLookup at pad} _ (far_is find starts n at leads) other_of (λ a k. tt)
    (λ other k. tested {A = Insn} (λ cs. all_zero pad && ascend (keys cs)) (Form at) (λ cs. Lookup other (keys cs) (tos cs)) (cases_is find starts n at leads)
    (λ cs f k e. let b = both_true (all_zero pad) (ascend (keys cs)) e in
    (keyed_same starts at cs, keyed_fits starts n at cs f b.1, ((refl, zeros_here pad (padding at) len b.0), refl)))
    (λ a f k. let cs = cases (keys_of a) (targets_of a) in
    let ks = keys_back (keys_of a) (targets_of a) f.0.same in
    let ts = tos_back (keys_of a) (targets_of a) f.0.same in
    let zero = subst (λ (w : List ℕ). all_zero w ≡ true) k.0.1 (zeros_pass (padding at)) in
    let up = ap ascend ks ∙ all_ascend (keys_of a) f.0.each f.0.ascend in
    (cs, keyed_back a other cs k.0.0 k.1 ks ts, (subst (λ (m : ℕ). m < 2 ^ 31) (sym (len_cases (keys_of a) (targets_of a) f.0.same)) f.0.count, all_cases starts n at (keys_of a) (targets_of a) f.0.each f.1), tt, rw (zero, up) refl)))

pub lookup_is : (find : Finder) (starts : List ℕ) (n at : ℕ) → Leads find starts n
    → IsTail (lookup_at find at) (λ a. replicate (padding at) 0 ++ after_zeros starts at a) (λ a. Unit {0} × FitsKeyed starts n at a) (λ a. is_lookup a ≡ true)
unfolding lookup_at
lookup_is find starts n at leads = then {known = λ a. is_lookup a ≡ true} _ (padding_is at) (λ a. replicate (padding at) 0) (λ a k. length-replicate {A = ℕ} (padding at) 0)
    (λ pad len. keyed_is find starts n at pad leads len)
