-- How many choices there are: products of which no more than 64 bits are counted.
use Rattle.std.proofs.Common.{◌≡◌, ℕ, zero, suc, ◌*◌, ◌^◌, ◌<◌, ◌≤◌, min, ℤ, pos, Bool, true, false, List, [], ◌∷◌, length, refl, sym, ap, ◌∙◌, arith}
use Rattle.std.specs.Prelude.{◌≤ℤ◌, int_le, nat_le, if◌then◌else◌, int_lt}
use Rattle.std.specs.Ordering.{int_eq}
use Rattle.std.proofs.Math.Nat.{mul-suc, mul-zero, mul_assoc, mul_comm}
use Rattle.std.proofs.lemmas.Bool.{le-leb, leb-false, leb-true}
use Rattle.std.proofs.lemmas.Int.{ints}
use Rattle.conspec_tree.specs.declared.types.Var.{Var}
use Rattle.conspec_automaton.specs.declared.policy.Clause.{Clause}
use Rattle.conspec_automaton.specs.Points.{ascending, is_named, named_points, near, placed, points_between, variable_numbers, thresholds}
use Rattle.conspec_automaton.specs.Trying.{capped, most}

-- ---- capped products

pub capped_few : (n : ℕ) → n ≤ most → capped n ≡ n
capped_few n h = rw (le-leb n most h) refl

capped_many : (n : ℕ) → most ≤ n → capped n ≡ most
capped_many n h = by (nat_le n most) refl where
  by : (b : Bool) → nat_le n most ≡ b → (if b then n else most) ≡ most
  by true e = let le = leb-true n most e in omega arith
  by false e = refl

capped_min : (n : ℕ) → min n most ≡ capped n
capped_min n = by (nat_le n most) refl where
  by : (b : Bool) → nat_le n most ≡ b → min n most ≡ (if b then n else most)
  by true e = let le = leb-true n most e in omega arith
  by false e = let gt = leb-false n most e in omega arith

capped_times : (a b : ℕ) → capped (capped a * b) ≡ capped (a * b)
capped_times a zero = rw (mul-zero (capped a), mul-zero a) refl
capped_times a (suc b) = by (nat_le a most) refl where
  by : (c : Bool) → nat_le a most ≡ c → capped ((if c then a else most) * suc b) ≡ capped (a * suc b)
  by true e = refl
  by false e =
      let gt = leb-false a most e in
      capped_many (most * suc b) (rw (mul-suc most b) (omega arith)) ∙ sym (capped_many (a * suc b) (rw (mul-suc a b) (omega arith)))

capped_both : (a b : ℕ) → capped (capped a * capped b) ≡ capped (a * b)
capped_both a b =
    capped_times a (capped b)
    ∙ ap capped (mul_comm a (capped b))
    ∙ capped_times b a
    ∙ ap capped (mul_comm b a)

-- the count of three factors, each of which is counted
pub three_counted : (a b c n first second third product : ℕ) → first ≡ capped a → second ≡ capped b → third ≡ capped c → product ≡ min (second * third) most → n ≡ min (first * product) most → n ≡ capped (a * (b * c))
three_counted a b c n first second third product one two three inner outer =
    let small : product ≡ capped (b * c) = inner ∙ capped_min (second * third) ∙ ap (λ (k : ℕ). capped (k * third)) two ∙ ap (λ (k : ℕ). capped (capped b * k)) three ∙ capped_both b c in
    outer ∙ capped_min (first * product) ∙ ap (λ (k : ℕ). capped (k * product)) one ∙ ap (λ (k : ℕ). capped (capped a * k)) small ∙ capped_both a (b * c)

-- one more factor is counted
pub count_more : (count factor rest n : ℕ) → capped (count * (factor * rest)) ≡ n → capped (min (count * factor) most * rest) ≡ n
count_more count factor rest n e =
    ap (λ (k : ℕ). capped (k * rest)) (capped_min (count * factor)) ∙ capped_times (count * factor) rest ∙ ap capped (mul_assoc count factor rest) ∙ e

pub count_done : (count n : ℕ) → count < 2 ^ 64 → capped (count * 1) ≡ n → count ≡ n
count_done count n fits e =
    let one : count * 1 ≡ count = omega arith in
    sym (ap capped one ∙ capped_few count (omega arith)) ∙ e

-- ---- no list of points is empty

some_placed : (n : ℤ) (ms : List ℤ) → 0 < length (placed n ms)
some_placed n [] = omega arith
some_placed n (m ∷ ms) = by (int_lt n m) (int_eq n m) where
  by : (b c : Bool) → 0 < length (if b then n ∷ m ∷ ms else if c then m ∷ ms else m ∷ placed n ms)
  by true c = omega arith
  by false true = omega arith
  by false false = omega arith

some_in_order : (ns : List ℤ) → 0 < length ns → 0 < length (ascending ns)
some_in_order [] some = absurd (omega arith)
some_in_order (n ∷ ns) some = some_placed n (ascending ns)

pub some_between : (low high : ℤ) (cs : List ℤ) → 0 < length (points_between low high cs)
some_between low high [] = omega arith
some_between low high (c ∷ cs) = some_placed low (ascending (high ∷ near low high (c ∷ cs)))

module _ (maxint : ℤ) (cs : List Clause) (positive : pos 1 ≤ℤ maxint) where
  some_named : (i : ℕ) (is_bool : Bool) → 0 < length (named_points maxint i is_bool cs)
  some_named i true = omega arith
  some_named i false = let e : int_le (pos 0) maxint ≡ true = grind (arith, ints) in some_in_order (near (pos 0) maxint (thresholds maxint i cs)) (rw e (omega arith))

  pub some_points : (i : ℕ) (v : Var) → 0 < length (variable_numbers maxint cs i v)
  some_points i v = by (is_named i cs) where
    by : (b : Bool) → 0 < length (if b then named_points maxint i v.is_bool cs else v.first ∷ [])
    by true = some_named i v.is_bool
    by false = omega arith
