-- Where instructions begin, and what other targets change.
use Rattle.std.proofs.Common.{◌≡◌, ℕ, zero, suc, ℤ, pos, negsuc, ◌+◌, ◌*◌, ◌≤◌, ◌<◌, true, cond, List, [], ◌∷◌, length, map, Option, Some, None, Ok, refl, sym, ap, subst, ◌∙◌, inl, inr, arith}
use Rattle.std.specs.Prelude.{◌==◌, ◌&&◌, slice_index}
use Rattle.std.proofs.Math.Path.{fun_ext}
use Rattle.std.proofs.lemmas.Bool.{cases_lt}
use Rattle.std.proofs.lemmas.List.{length-map}
use Rattle.mon_base.specs.Reading.{Place, ◌>>=◌, need, counted}
use Rattle.mon_base.proofs.Reading.{bind_ok, ok_is, need_ok}
use Rattle.insn_codec.specs.declared.fault.CodeFault.{CodeFault}
use Rattle.insn_codec.specs.declared.fault.CodeFault.TheVariants as faults
use Rattle.insn_codec.specs.declared.opcode.Operands.{Operands}
use Rattle.insn_codec.specs.declared.opcode.Operands.TheVariants as ops
use Rattle.insn_codec.specs.declared.insn.Case.{Case}
use Rattle.insn_codec.specs.declared.insn.Insn.{Insn}
use Rattle.insn_codec.specs.declared.insn.Insn.TheVariants.{Branch, GotoW, Table, Lookup}
use Rattle.insn_codec.specs.Opcodes.{operands_of}
use Rattle.insn_codec.specs.Encoding.{padding, size, starts_from, starts_of}
use Rattle.insn_codec.specs.Reading.{Finder, Read, any, among, next_index, index_from, target_of, u1_at, i2_at, i4_at, near_at, far_at, padding_at, all_zero, bounds_at, ranged_at, table_at, case_at, ascend, count_at, cases_at, keyed_at, lookup_at, operands_at, insn_at}
use Rattle.insn_codec.proofs.Laws.{Leads}
use Rattle.insn_codec.proofs.Marks.{index_none, index_here, index_later, index_before}
use Rattle.insn_codec.proofs.Standing.{size-some, starts_first}

-- ---- the instruction that begins at a position

some_is : (a b : ℕ) → Some a ≡ Some b → a ≡ b
some_is a b e = cc

none_is : {A : Type 0} (x : A) → None ≡ Some x → ⊥
none_is x e = absurd cc

next_is : (o : Option ℕ) (i : ℕ) → next_index o ≡ Some i → (j : ℕ) × (o ≡ Some j) × (i ≡ suc j)
next_is None i e = absurd (none_is i e)
next_is (Some j) i e = let n : i ≡ suc j = omega (arith, some_is (j + 1) i e) in (j, refl, n)

found_at : (xs : List Insn) (at p i : ℕ) → index_from at xs p ≡ Some i → (i < length xs) × (slice_index (starts_from at xs) i ≡ p)
found_at [] at p i e = absurd (none_is i (sym (index_none at p) ∙ e))
found_at (x ∷ xs) at p i e =
    elim (cases_lt at p) [
      | inl later ↦
          let g = next_is (index_from (at + size at x) xs p) i (sym (index_later at x xs p later) ∙ e) in
          let h = found_at xs (at + size at x) p g.0 g.1 in
          let lt : i < length (x ∷ xs) = omega (arith, h.0, g.2) in
          let there : slice_index (starts_from at (x ∷ xs)) i ≡ p = ap (slice_index (starts_from at (x ∷ xs))) g.2 ∙ ap (λ (ns : List ℕ). slice_index ns (suc g.0)) (starts_first at x xs) ∙ h.1 in
          (lt, there)
      | inr here ↦ elim (cases_lt p at) [
        | inl before ↦ absurd (none_is i (sym (index_before (x ∷ xs) at p before) ∙ e))
        | inr not_before ↦
            let same : at ≡ p = omega arith in
            let zero_is : 0 ≡ i = some_is 0 i (sym (index_here at x xs) ∙ ap (index_from at (x ∷ xs)) same ∙ e) in
            let lt : i < length (x ∷ xs) = omega (arith, zero_is) in
            let there : slice_index (starts_from at (x ∷ xs)) i ≡ p = ap (slice_index (starts_from at (x ∷ xs))) (sym zero_is) ∙ ap (λ (ns : List ℕ). slice_index ns 0) (starts_first at x xs) ∙ same in
            (lt, there)
      ]
    ]

starts_above : (xs : List Insn) (at i : ℕ) → i < length xs → at ≤ slice_index (starts_from at xs) i
starts_above [] at i lt = absurd (omega arith)
starts_above (x ∷ xs) at zero lt =
    let is : slice_index (starts_from at (x ∷ xs)) 0 ≡ at = ap (λ (ns : List ℕ). slice_index ns 0) (starts_first at x xs) in
    omega (arith, is)
starts_above (x ∷ xs) at (suc i) lt =
    let is : slice_index (starts_from at (x ∷ xs)) (suc i) ≡ slice_index (starts_from (at + size at x) xs) i = ap (λ (ns : List ℕ). slice_index ns (suc i)) (starts_first at x xs) in
    let above = starts_above xs (at + size at x) i (omega arith) in
    omega (arith, is, above)

begins_at : (xs : List Insn) (at i : ℕ) → i < length xs → index_from at xs (slice_index (starts_from at xs) i) ≡ Some i
begins_at [] at i lt = absurd (omega arith)
begins_at (x ∷ xs) at zero lt =
    ap (λ (ns : List ℕ). index_from at (x ∷ xs) (slice_index ns 0)) (starts_first at x xs) ∙ index_here at x xs
begins_at (x ∷ xs) at (suc i) lt =
    let q = slice_index (starts_from (at + size at x) xs) i in
    let above = starts_above xs (at + size at x) i (omega arith) in
    let so_far = begins_at xs (at + size at x) i (omega arith) in
    let later : at < q = omega (arith, above, size-some at x) in
    let n : i + 1 ≡ suc i = omega arith in
    ap (λ (ns : List ℕ). index_from at (x ∷ xs) (slice_index ns (suc i))) (starts_first at x xs) ∙ index_later at x xs q later
    ∙ ap next_index so_far ∙ ap (λ (k : ℕ). Some k) n

back_to : (xs : List Insn) (z : ℤ) (i : ℕ) → among xs z ≡ Some i → (i < length xs) × (pos (slice_index (starts_of xs) i) ≡ z)
back_to xs (pos p) i e = let h = found_at xs 0 p i e in (h.0, ap pos h.1)
back_to xs (negsuc n) i e = absurd (none_is i e)

pub leads : (xs : List Insn) → Leads (among xs) (starts_of xs) (length xs)
leads xs = record {
  back = λ z i e. back_to xs z i e;
  there = λ i lt. begins_at xs 0 i lt;
}

-- ---- lists of which each two instructions have one size

abbrev pub SameSize : Insn → Insn → Type 0
SameSize x y = (at : ℕ) → size at x ≡ size at y

abbrev pub Alike : List Insn → List Insn → Type 0
Alike [] [] = Unit {0}
Alike [] (y ∷ ys) = ⊥
Alike (x ∷ xs) [] = ⊥
Alike (x ∷ xs) (y ∷ ys) = SameSize x y × Alike xs ys

alike_index : (xs ys : List Insn) (at p : ℕ) → Alike xs ys → index_from at xs p ≡ index_from at ys p
unfolding index_from
alike_index [] [] at p h = refl
alike_index [] (y ∷ ys) at p h = absurd h
alike_index (x ∷ xs) [] at p h = absurd h
alike_index (x ∷ xs) (y ∷ ys) at p h =
    let others : index_from (at + size at x) xs p ≡ index_from (at + size at y) ys p = alike_index xs ys (at + size at x) p h.1 ∙ ap (λ (n : ℕ). index_from (at + n) ys p) (h.0 at) in
    ap (λ (o : Option ℕ). cond (at == p) (Some 0) (next_index o)) others

alike_among : (xs ys : List Insn) → Alike xs ys → (z : ℤ) → among xs z ≡ among ys z
alike_among xs ys h (pos p) = alike_index xs ys 0 p h
alike_among xs ys h (negsuc n) = refl

pub same_finder : (xs ys : List Insn) → Alike xs ys → among xs ≡ among ys
same_finder xs ys h = fun_ext (λ z. alike_among xs ys h z)

-- ---- reading with any targets

abbrev aimed : (Place → Read ℤ) → Finder → ℕ → Place → Read ℕ
aimed reader find at p = reader p >>= λ by. target_of find at by.0 >>= λ to. Ok (to, by.1)

target_any : (reader : Place → Read ℤ) (find : Finder) (at : ℕ) (p : Place) (to : ℕ) (next : Place)
    → aimed reader find at p ≡ Ok (to, next) → aimed reader any at p ≡ Ok (0, next)
target_any reader find at p to next e =
    let b = bind_ok (reader p) (λ by. target_of find at by.0 >>= λ to. Ok (to, by.1)) (to, next) e in
    let g = bind_ok (target_of find at b.0.0) (λ to. Ok (to, b.0.1)) (to, next) b.2 in
    let made : ℕ × Place = (g.0, b.0.1) in
    let same : b.0.1 ≡ next = ap (λ (x : ℕ × Place). x.1) (ok_is CodeFault made (to, next) g.2) in
    rw (b.1, same) refl

near_any : (find : Finder) (at : ℕ) (p : Place) (to : ℕ) (next : Place) → near_at find at p ≡ Ok (to, next) → near_at any at p ≡ Ok (0, next)
unfolding near_at
near_any find at p to next e = target_any (i2_at at) find at p to next e

far_any : (find : Finder) (at : ℕ) (p : Place) (to : ℕ) (next : Place) → far_at find at p ≡ Ok (to, next) → far_at any at p ≡ Ok (0, next)
unfolding far_at
far_any find at p to next e = target_any (i4_at at) find at p to next e

case_step : (find : Finder) (at : ℕ) (p : Place) (key : ℤ) (p1 : Place) (to : ℕ) (p2 : Place) → i4_at at p ≡ Ok (key, p1)
    → far_at find at p1 ≡ Ok (to, p2) → case_at find at p ≡ Ok (record { key = key; to = to }, p2)
unfolding case_at
case_step find at p key p1 to p2 h g = rw (h, g) refl

case_any : (find : Finder) (at : ℕ) (p : Place) (c : Case) (next : Place) → case_at find at p ≡ Ok (c, next)
    → (d : Case) × (case_at any at p ≡ Ok (d, next)) × (d.key ≡ c.key)
unfolding case_at
case_any find at p c next e =
    let b = bind_ok (i4_at at p) (λ key. far_at find at key.1 >>= λ to. Ok (record { key = key.0; to = to.0 }, to.1)) (c, next) e in
    let g = bind_ok (far_at find at b.0.1) (λ to. Ok (record { key = b.0.0; to = to.0 }, to.1)) (c, next) b.2 in
    let other = far_any find at b.0.1 g.0.0 g.0.1 g.1 in
    let made : Case × Place = (record { key = b.0.0; to = g.0.0 }, g.0.1) in
    let is = ok_is CodeFault made (c, next) g.2 in
    let same : g.0.1 ≡ next = ap (λ (x : Case × Place). x.1) is in
    let made_any : Case = record { key = b.0.0; to = 0 } in
    (made_any, case_step any at p b.0.0 b.0.1 0 g.0.1 b.1 other ∙ ap (λ (q : Place). Ok (made_any, q)) same, ap (λ (x : Case × Place). x.0.key) is)

counted_step : {X : Type 0} (item : Place → Read X) (n : ℕ) (p : Place) (x : X) (p1 : Place) (xs : List X) (p2 : Place) → item p ≡ Ok (x, p1)
    → counted item n p1 ≡ Ok (xs, p2) → counted item (suc n) p ≡ Ok (x ∷ xs, p2)
unfolding counted
counted_step item n p x p1 xs p2 a b = rw (a, b) refl

-- items, of which some part stays
counted_any : {X Y : Type 0} (item other : Place → Read X) (part : X → Y)
    → ((p : Place) (x : X) (next : Place) → item p ≡ Ok (x, next) → (y : X) × (other p ≡ Ok (y, next)) × (part y ≡ part x))
    → (n : ℕ) (p : Place) (xs : List X) (next : Place) → counted item n p ≡ Ok (xs, next)
    → (ys : List X) × (counted other n p ≡ Ok (ys, next)) × (map part ys ≡ map part xs)
unfolding counted
counted_any {X = X} {Y = Y} item other part each zero p xs next e =
    let made : List X × Place = ([], p) in
    let is = ok_is CodeFault made (xs, next) e in
    ([], ap (λ (x : List X × Place). Ok ([], x.1)) is, ap (λ (x : List X × Place). map part x.0) is)
counted_any {X = X} {Y = Y} item other part each (suc n) p xs next e =
    let b = bind_ok (item p) (λ first. counted item n first.1 >>= λ others. Ok (first.0 ∷ others.0, others.1)) (xs, next) e in
    let g = bind_ok (counted item n b.0.1) (λ others. Ok (b.0.0 ∷ others.0, others.1)) (xs, next) b.2 in
    let one = each p b.0.0 b.0.1 b.1 in
    let two = counted_any item other part each n b.0.1 g.0.0 g.0.1 g.1 in
    let made : List X × Place = (b.0.0 ∷ g.0.0, g.0.1) in
    let is = ok_is CodeFault made (xs, next) g.2 in
    let same : g.0.1 ≡ next = ap (λ (x : List X × Place). x.1) is in
    let parts : map part (one.0 ∷ two.0) ≡ map part (b.0.0 ∷ g.0.0) = ap (λ (z : Y). z ∷ map part two.0) one.2 ∙ ap (λ (zs : List Y). part b.0.0 ∷ zs) two.2 in
    (one.0 ∷ two.0, counted_step other n p one.0 b.0.1 two.0 g.0.1 one.1 two.1 ∙ ap (λ (q : Place). Ok (one.0 ∷ two.0, q)) same, parts ∙ ap (λ (x : List X × Place). map part x.0) is)

-- ---- switches with any targets

abbrev pub AlikeAt : (Place → Read Insn) → Insn → Place → Place → Type 0
AlikeAt reader x p next = (y : Insn) × (reader p ≡ Ok (y, next)) × SameSize y x

ranged_step : (find : Finder) (at : ℕ) (pad : List ℕ) (p : Place) (other : ℕ) (p1 : Place) (bounds : ℤ × ℕ) (p2 : Place) (all : List ℕ) (p3 : Place)
    → far_at find at p ≡ Ok (other, p1) → bounds_at at p1 ≡ Ok (bounds, p2) → counted (far_at find at) bounds.1 p2 ≡ Ok (all, p3)
    → all_zero pad ≡ true → ranged_at find at pad p ≡ Ok (Table other bounds.0 all, p3)
unfolding ranged_at
ranged_step find at pad p other p1 bounds p2 all p3 a b c d = rw (a, b, c, d) refl

len_from_parts : {X : Type 0} (xs ys : List X) → map {B = Unit {0}} (λ x. tt) ys ≡ map (λ x. tt) xs → length ys ≡ length xs
len_from_parts xs ys h = sym (length-map {B = Unit {0}} ys (λ x. tt)) ∙ ap length h ∙ length-map {B = Unit {0}} xs (λ x. tt)

ranged_any : (find : Finder) (at : ℕ) (pad : List ℕ) (p : Place) (x : Insn) (next : Place) → ranged_at find at pad p ≡ Ok (x, next)
    → AlikeAt (ranged_at any at pad) x p next
unfolding ranged_at
ranged_any find at pad p x next e =
    let a = bind_ok (far_at find at p) (λ other. bounds_at at other.1 >>= λ bounds. counted (far_at find at) bounds.0.1 bounds.1 >>= λ all. need (all_zero pad) (faults.Form at) >>= λ _. Ok (Table other.0 bounds.0.0 all.0, all.1)) (x, next) e in
    let b = bind_ok (bounds_at at a.0.1) (λ bounds. counted (far_at find at) bounds.0.1 bounds.1 >>= λ all. need (all_zero pad) (faults.Form at) >>= λ _. Ok (Table a.0.0 bounds.0.0 all.0, all.1)) (x, next) a.2 in
    let c = bind_ok (counted (far_at find at) b.0.0.1 b.0.1) (λ all. need (all_zero pad) (faults.Form at) >>= λ _. Ok (Table a.0.0 b.0.0.0 all.0, all.1)) (x, next) b.2 in
    let d = need_ok (all_zero pad) (faults.Form at) (λ _. Ok (Table a.0.0 b.0.0.0 c.0.0, c.0.1)) (x, next) c.2 in
    let one = far_any find at p a.0.0 a.0.1 a.1 in
    let many = counted_any {Y = Unit {0}} (far_at find at) (far_at any at) (λ to. tt) (λ q to after h. (0, far_any find at q to after h, refl)) b.0.0.1 b.0.1 c.0.0 c.0.1 c.1 in
    let made : Insn × Place = (Table a.0.0 b.0.0.0 c.0.0, c.0.1) in
    let is = ok_is CodeFault made (x, next) d.1 in
    let other : Insn = Table 0 b.0.0.0 many.0 in
    let len = len_from_parts c.0.0 many.0 many.2 in
    let sizes : SameSize other (Table a.0.0 b.0.0.0 c.0.0) = λ k. ap (λ (n : ℕ). 13 + padding k + 4 * n) len in
    (other, ranged_step any at pad p 0 a.0.1 b.0.0 b.0.1 many.0 c.0.1 one b.1 many.1 d.0 ∙ ap (λ (y : Insn × Place). Ok (other, y.1)) is, subst (λ (y : Insn). SameSize other y) (ap (λ (y : Insn × Place). y.0) is) sizes)

keyed_step : (find : Finder) (at : ℕ) (pad : List ℕ) (p : Place) (other : ℕ) (p1 : Place) (all : List Case) (p2 : Place)
    → far_at find at p ≡ Ok (other, p1) → cases_at find at p1 ≡ Ok (all, p2)
    → (all_zero pad && ascend (map (λ one. one.key) all)) ≡ true
    → keyed_at find at pad p ≡ Ok (Lookup other (map (λ one. one.key) all) (map (λ one. one.to) all), p2)
unfolding keyed_at
keyed_step find at pad p other p1 all p2 a b c = rw (a, b, c) refl

cases_step : (find : Finder) (at : ℕ) (p : Place) (n : ℕ) (p1 : Place) (all : List Case) (p2 : Place) → count_at at p ≡ Ok (n, p1)
    → counted (case_at find at) n p1 ≡ Ok (all, p2) → cases_at find at p ≡ Ok (all, p2)
unfolding cases_at
cases_step find at p n p1 all p2 a b = rw a b

cases_any : (find : Finder) (at : ℕ) (p : Place) (cs : List Case) (next : Place) → cases_at find at p ≡ Ok (cs, next)
    → (ds : List Case) × (cases_at any at p ≡ Ok (ds, next)) × (map {B = ℤ} (λ one. one.key) ds ≡ map (λ one. one.key) cs)
unfolding cases_at
cases_any find at p cs next e =
    let a = bind_ok (count_at at p) (λ count. counted (case_at find at) count.0 count.1) (cs, next) e in
    let many = counted_any {Y = ℤ} (case_at find at) (case_at any at) (λ one. one.key) (λ q c after h. case_any find at q c after h) a.0.0 a.0.1 cs next a.2 in
    (many.0, cases_step any at p a.0.0 a.0.1 many.0 next a.1 many.1, many.2)

keyed_any : (find : Finder) (at : ℕ) (pad : List ℕ) (p : Place) (x : Insn) (next : Place) → keyed_at find at pad p ≡ Ok (x, next)
    → AlikeAt (keyed_at any at pad) x p next
unfolding keyed_at
keyed_any find at pad p x next e =
    let a = bind_ok (far_at find at p) (λ other. cases_at find at other.1 >>= λ all. need (all_zero pad && ascend (map (λ one. one.key) all.0)) (faults.Form at) >>= λ _. Ok (Lookup other.0 (map (λ one. one.key) all.0) (map (λ one. one.to) all.0), all.1)) (x, next) e in
    let b = bind_ok (cases_at find at a.0.1) (λ all. need (all_zero pad && ascend (map (λ one. one.key) all.0)) (faults.Form at) >>= λ _. Ok (Lookup a.0.0 (map (λ one. one.key) all.0) (map (λ one. one.to) all.0), all.1)) (x, next) a.2 in
    let d = need_ok (all_zero pad && ascend (map (λ one. one.key) b.0.0)) (faults.Form at) (λ _. Ok (Lookup a.0.0 (map (λ one. one.key) b.0.0) (map (λ one. one.to) b.0.0), b.0.1)) (x, next) b.2 in
    let one = far_any find at p a.0.0 a.0.1 a.1 in
    let many = cases_any find at a.0.1 b.0.0 b.0.1 b.1 in
    let cs : List Case = b.0.0 in
    let ds : List Case = many.0 in
    let first : Insn = Lookup a.0.0 (map (λ one. one.key) cs) (map (λ one. one.to) cs) in
    let other : Insn = Lookup 0 (map (λ one. one.key) ds) (map (λ one. one.to) ds) in
    let made : Insn × Place = (first, b.0.1) in
    let is = ok_is CodeFault made (x, next) d.1 in
    let test : (all_zero pad && ascend (map (λ one. one.key) ds)) ≡ true = ap (λ (ks : List ℤ). all_zero pad && ascend ks) many.2 ∙ d.0 in
    let same_len : length ds ≡ length cs = sym (length-map {B = ℤ} ds (λ one. one.key)) ∙ ap length many.2 ∙ length-map {B = ℤ} cs (λ one. one.key) in
    let len : length (map {B = ℕ} (λ one. one.to) ds) ≡ length (map {B = ℕ} (λ one. one.to) cs) = length-map {B = ℕ} ds (λ one. one.to) ∙ same_len ∙ sym (length-map {B = ℕ} cs (λ one. one.to)) in
    let sizes : SameSize other first = λ k. ap (λ (n : ℕ). 9 + padding k + 8 * n) len in
    (other, keyed_step any at pad p 0 a.0.1 ds b.0.1 one many.1 test ∙ ap (λ (y : Insn × Place). Ok (other, y.1)) is, subst (λ (y : Insn). SameSize other y) (ap (λ (y : Insn × Place). y.0) is) sizes)

-- what is read first is the same
after_any : {B : Type 0} (first : Place → Read B) (reader other : B → Place → Read Insn)
    → ((b : B) (p : Place) (x : Insn) (next : Place) → reader b p ≡ Ok (x, next) → AlikeAt (other b) x p next)
    → (p : Place) (x : Insn) (next : Place) → (first p >>= λ b. reader b.0 b.1) ≡ Ok (x, next)
    → AlikeAt (λ q. first q >>= λ b. other b.0 b.1) x p next
after_any {B = B} first reader other each p x next e =
    let a = bind_ok (first p) (λ b. reader b.0 b.1) (x, next) e in
    let h = each a.0.0 a.0.1 x next a.2 in
    (h.0, ap (λ (r : Read B). r >>= λ b. other b.0 b.1) a.1 ∙ h.1, h.2)

table_any : (find : Finder) (at : ℕ) (p : Place) (x : Insn) (next : Place) → table_at find at p ≡ Ok (x, next) → AlikeAt (table_at any at) x p next
unfolding table_at
table_any find at p x next e = after_any (padding_at at) (ranged_at find at) (ranged_at any at) (ranged_any find at) p x next e

lookup_any : (find : Finder) (at : ℕ) (p : Place) (x : Insn) (next : Place) → lookup_at find at p ≡ Ok (x, next) → AlikeAt (lookup_at any at) x p next
unfolding lookup_at
lookup_any find at p x next e = after_any (padding_at at) (keyed_at find at) (keyed_at any at) (keyed_any find at) p x next e

-- ---- instructions with any targets

-- an instruction that holds a target alone
abbrev held : (ℕ → Insn) → (Place → Read ℕ) → Place → Read Insn
held wrap reader p = reader p >>= λ to. Ok (wrap to.0, to.1)

jump_any : (wrap : ℕ → Insn) (reader other : Place → Read ℕ) → ((to : ℕ) → SameSize (wrap 0) (wrap to))
    → ((p : Place) (to : ℕ) (next : Place) → reader p ≡ Ok (to, next) → other p ≡ Ok (0, next))
    → (p : Place) (x : Insn) (next : Place) → held wrap reader p ≡ Ok (x, next) → AlikeAt (held wrap other) x p next
jump_any wrap reader other same each p x next e =
    let a = bind_ok (reader p) (λ to. Ok (wrap to.0, to.1)) (x, next) e in
    let made : Insn × Place = (wrap a.0.0, a.0.1) in
    let is = ok_is CodeFault made (x, next) a.2 in
    let step : held wrap other p ≡ Ok (wrap 0, a.0.1) = ap (λ (r : Read ℕ). r >>= λ to. Ok (wrap to.0, to.1)) (each p a.0.0 a.0.1 a.1) in
    (wrap 0, step ∙ ap (λ (y : Insn × Place). Ok (wrap 0, y.1)) is, subst (λ (y : Insn). SameSize (wrap 0) y) (ap (λ (y : Insn × Place). y.0) is) (same a.0.0))

operands_any : (o : Operands) (find : Finder) (at op : ℕ) (p : Place) (x : Insn) (next : Place) → operands_at o find at op p ≡ Ok (x, next)
    → AlikeAt (operands_at o any at op) x p next
operands_any ops.Branch find at op p x next e = jump_any (λ to. Branch op to) (near_at find at) (near_at any at) (λ to k. refl) (near_any find at) p x next e
operands_any ops.GotoW find at op p x next e = jump_any GotoW (far_at find at) (far_at any at) (λ to k. refl) (far_any find at) p x next e
operands_any ops.Table find at op p x next e = table_any find at p x next e
operands_any ops.Lookup find at op p x next e = lookup_any find at p x next e
operands_any o find at op p x next e = (x, e, λ k. refl)

pub insn_any : (find : Finder) (at : ℕ) (p : Place) (x : Insn) (next : Place) → insn_at find at p ≡ Ok (x, next) → AlikeAt (insn_at any at) x p next
unfolding insn_at
insn_any find at p x next e =
    after_any (u1_at at) (λ op. operands_at (operands_of op) find at op) (λ op. operands_at (operands_of op) any at op) (λ op. operands_any (operands_of op) find at op) p x next e
