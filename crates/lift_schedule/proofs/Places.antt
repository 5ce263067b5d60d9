-- What the standings of a method's instructions tell is where these stand in its blocks.
use Rattle.std.proofs.Common.{◌≡◌, ◌∙◌, ℕ, zero, suc, ◌+◌, ◌-◌, ◌<◌, ◌≤◌, ◌==◌, Bool, true, false, List, [], ◌∷◌, ◌++◌, length, Option, Some, None, refl, sym, ap, arith}
use Rattle.std.specs.Prelude.{nat_lt, not, slice_get}
use Rattle.std.specs.Option.{option_map_or}
use Rattle.std.proofs.lemmas.Bool.{eqb-false, eqb-true, ltb-false, ltb-true}
use Rattle.guest_erasing.specs.Places.{Sites, front, is_before_call, is_inside, own, stand}
use Rattle.guest_erasing.proofs.Placing.{lt_as}
use Rattle.offset_patch.specs.declared.block.Block.{Block}
use Rattle.offset_patch.specs.declared.block.BlockInsn.{BlockInsn}
use Rattle.offset_patch.specs.Splicing.{call_place, count_of, part_of}
use Rattle.lift_schedule.specs.declared.standing.Standing.{Standing}
use Rattle.lift_schedule.specs.Standing.{part_standings, standing_in, standings, standings_from}

-- ---- lists

length-both : {X : Type 0} (xs ys : List X) → length (xs ++ ys) ≡ length xs + length ys
length-both [] ys = omega arith
length-both (x ∷ xs) ys = ap suc (length-both xs ys) ∙ omega arith

get_first : {X : Type 0} (xs ys : List X) (i : ℕ) → i < length xs → slice_get (xs ++ ys) i ≡ slice_get xs i
get_first [] ys i h = absurd (omega (arith, h))
get_first (x ∷ xs) ys zero h = refl
get_first (x ∷ xs) ys (suc i) h = get_first xs ys i (omega (arith, h))

get_second : {X : Type 0} (xs ys : List X) (i : ℕ) → length xs ≤ i → slice_get (xs ++ ys) i ≡ slice_get ys (i - length xs)
get_second [] ys i h = ap (slice_get ys) (let same : i ≡ i - 0 = omega arith in same)
get_second (x ∷ xs) ys zero h = absurd (omega (arith, h))
get_second (x ∷ xs) ys (suc i) h =
    get_second xs ys i (omega (arith, h)) ∙ ap (slice_get ys) (let same : i - length xs ≡ suc i - suc (length xs) = omega arith in same)

-- ---- parts

many_from : (call place : ℕ) (part : List BlockInsn) → length (standings_from call place part) ≡ length part
many_from call place [] = refl
many_from call place (insn ∷ part) = ap suc (many_from call (place + 1) part)

told_from : (call place : ℕ) (part : List BlockInsn) (i : ℕ) → i < length part
    → slice_get (standings_from call place part) i ≡ Some (standing_in call (place + i))
told_from call place [] i h = absurd (omega (arith, h))
told_from call place (insn ∷ part) zero h = ap (λ (n : ℕ). Some (standing_in call n)) (let same : place ≡ place + 0 = omega arith in same)
told_from call place (insn ∷ part) (suc i) h =
    told_from call (place + 1) part i (omega (arith, h))
    ∙ ap (λ (n : ℕ). Some (standing_in call n)) (let same : (place + 1) + i ≡ place + suc i = omega arith in same)

pub many_told : (sites : Sites) → length (standings sites) ≡ count_of sites
many_told [] = refl
many_told (site ∷ sites) =
    length-both (part_standings (part_of site)) (standings sites)
    ∙ ap (λ (n : ℕ). n + length (standings sites)) (many_from (call_place (part_of site)) 0 (part_of site))
    ∙ ap (λ (n : ℕ). length (part_of site) + n) (many_told sites)

-- ---- methods

module _ (view : Standing → Bool) where
  abbrev pub seen_at : Sites → ℕ → Bool
  seen_at sites at = option_map_or view (slice_get (standings sites) at) false

  here : (site : Option Block) (sites : Sites) (at : ℕ) → at < length (part_of site)
      → seen_at (site ∷ sites) at ≡ view (standing_in (call_place (part_of site)) at)
  here site sites at h =
      let many = many_from (call_place (part_of site)) 0 (part_of site) in
      let first : slice_get (standings (site ∷ sites)) at ≡ slice_get (part_standings (part_of site)) at =
      get_first (part_standings (part_of site)) (standings sites) at (omega (arith, h, many)) in
      ap (λ (o : Option Standing). option_map_or view o false)
      (first ∙ told_from (call_place (part_of site)) 0 (part_of site) at h
      ∙ ap (λ (n : ℕ). Some (standing_in (call_place (part_of site)) n)) (let same : 0 + at ≡ at = omega arith in same))

  later : (site : Option Block) (sites : Sites) (at : ℕ) → length (part_of site) ≤ at → seen_at (site ∷ sites) at ≡ seen_at sites (at - length (part_of site))
  later site sites at h =
      let many = many_from (call_place (part_of site)) 0 (part_of site) in
      ap (λ (o : Option Standing). option_map_or view o false)
      (get_second (part_standings (part_of site)) (standings sites) at (omega (arith, h, many))
      ∙ ap (λ (n : ℕ). slice_get (standings sites) (at - n)) many)

not_below : (n : ℕ) → nat_lt n n ≡ false
not_below n = by (nat_lt n n) refl where
  by : (b : Bool) → nat_lt n n ≡ b → b ≡ false
  by true e = absurd (let h : n < n = ltb-true n n e in omega (arith, h))
  by false e = refl

eqb_self : (n : ℕ) → (n == n) ≡ true
eqb_self n = by (n == n) refl where
  by : (b : Bool) → (n == n) ≡ b → b ≡ true
  by true e = refl
  by false e = absurd (eqb-false n n e refl)

same_as : (a b c d : ℕ) → (a ≡ b → c ≡ d) → (c ≡ d → a ≡ b) → (a == b) ≡ (c == d)
same_as a b c d f g = by (a == b) (c == d) refl refl where
  by : (p q : Bool) → (a == b) ≡ p → (c == d) ≡ q → p ≡ q
  by true true e k = refl
  by false false e k = refl
  by true false e k = absurd (let h : c ≡ d = f (eqb-true a b e) in let w : (c == d) ≡ true = rw h (eqb_self d) in cc)
  by false true e k = absurd (let h : a ≡ b = g (eqb-true c d k) in let w : (a == b) ≡ true = rw h (eqb_self b) in cc)

pub before_told : (sites : Sites) (at : ℕ) → seen_at (λ s. s.before_call) sites at ≡ is_before_call sites at
before_told [] at = sym (not_below at)
before_told (site ∷ sites) at = by (before_told sites) (nat_lt at (length (part_of site))) refl where
  by : ((i : ℕ) → seen_at (λ s. s.before_call) sites i ≡ is_before_call sites i) → (b : Bool) → nat_lt at (length (part_of site)) ≡ b → seen_at (λ s. s.before_call) (site ∷ sites) at ≡ is_before_call (site ∷ sites) at
  by rest true e = rw e (here (λ s. s.before_call) site sites at (ltb-true at (length (part_of site)) e))
  by rest false e =
      let h : length (part_of site) ≤ at = ltb-false at (length (part_of site)) e in
      let k = length (part_of site) in
      let there = stand sites (own sites (at - k)) in
      rw e (later (λ s. s.before_call) site sites at h ∙ rest (at - k)
      ∙ lt_as (at - k) there at (k + there) (λ l. omega (arith, l, h)) (λ l. omega (arith, l, h)))

pub inside_told : (sites : Sites) (at : ℕ) → seen_at (λ s. s.inside) sites at ≡ is_inside sites at
inside_told [] at = ap not (same_as 0 0 at at (λ e. refl) (λ e. refl))
inside_told (site ∷ sites) at = by (inside_told sites) (nat_lt at (length (part_of site))) refl where
  by : ((i : ℕ) → seen_at (λ s. s.inside) sites i ≡ is_inside sites i) → (b : Bool) → nat_lt at (length (part_of site)) ≡ b → seen_at (λ s. s.inside) (site ∷ sites) at ≡ is_inside (site ∷ sites) at
  by rest true e = rw e (here (λ s. s.inside) site sites at (ltb-true at (length (part_of site)) e))
  by rest false e =
      let h : length (part_of site) ≤ at = ltb-false at (length (part_of site)) e in
      let k = length (part_of site) in
      let there = front sites (own sites (at - k)) in
      rw e (later (λ s. s.inside) site sites at h ∙ rest (at - k)
      ∙ ap not (same_as (at - k) there at (k + there) (λ l. omega (arith, l, h)) (λ l. omega (arith, l, h))))
