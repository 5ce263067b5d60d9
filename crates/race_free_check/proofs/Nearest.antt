-- Of each number that is in a range, numbers of a few are on the same side of each threshold.
use Rattle.std.proofs.Common.{◌≡◌, ◌≢◌, ◌⊎◌, inl, inr, ℤ, pos, ◌+ℤ◌, Bool, true, false, List, [], ◌∷◌, refl, sym, subst, ◌∙◌, arith}
use Rattle.std.specs.Prelude.{◌≤ℤ◌, ◌<ℤ◌, ◌-ℤ◌, flat_map}
use Rattle.std.specs.Ordering.{int_eq}
use Rattle.std.proofs.lemmas.Bool.{false≢true, or_cases}
use Rattle.std.proofs.lemmas.Int.{ints, by_lt_z}
use Rattle.conspec_automaton.specs.Points.{around, ascending, near, points_between}
use Rattle.conspec_automaton.specs.Range.{is_between}
use Rattle.race_free_check.specs.Small.{has}
use Rattle.race_free_check.proofs.Members.{Has, filter_has, in_any, in_filter, in_flat}
use Rattle.race_free_check.proofs.Rising.{ascending_has, equal_self}
use Rattle.race_free_check.proofs.Thresholds.{Alike, Side, Within, above, below, differs, equals, is_within, side_itself, within}

-- ---- lists that ascend

has_there : (x : ℤ) (ns : List ℤ) → Has ns x → has ns x ≡ true
has_there x ns h = in_any (int_eq x) ns x h (equal_self x)

there_has : (x : ℤ) (ns : List ℤ) → has ns x ≡ true → Has ns x
there_has x [] e = absurd (false≢true e)
there_has x (n ∷ ns) e = by (or_cases (int_eq x n) (has ns x) e) (there_has x ns) where
  by : (int_eq x n ≡ true) ⊎ (has ns x ≡ true) → (has ns x ≡ true → Has ns x) → Has (n ∷ ns) x
  by (inl same) later = inl (sym (equals x n same))
  by (inr rest) later = inr (later rest)

pub in_ascending : (x : ℤ) (ns : List ℤ) → Has ns x → Has (ascending ns) x
in_ascending x ns h = there_has x (ascending ns) (ascending_has ns x ∙ has_there x ns h)

pub of_ascending : (x : ℤ) (ns : List ℤ) → Has (ascending ns) x → Has ns x
of_ascending x ns h = there_has x ns (sym (ascending_has ns x) ∙ has_there x (ascending ns) h)

-- ---- numbers beside thresholds

module _ (low high : ℤ) (ts : List ℤ) where
  near_of : (t x : ℤ) → Has ts t → Has (around t) x → low ≤ℤ x → x ≤ℤ high → Has (near low high ts) x
  near_of t x h a l m = in_filter (is_between low high) (flat_map around ts) x (in_flat around ts t x h a) (is_within low high x l m)

  near_level : (t : ℤ) → Has ts t → low ≤ℤ t → t ≤ℤ high → Has (near low high ts) t
  near_level t h l m = near_of t t h (inr (inl refl)) l m

  near_above : (t : ℤ) → Has ts t → low ≤ℤ (t +ℤ pos 1) → (t +ℤ pos 1) ≤ℤ high → Has (near low high ts) (t +ℤ pos 1)
  near_above t h l m = near_of t (t +ℤ pos 1) h (inr (inr (inl refl))) l m

  near_below : (t : ℤ) → Has ts t → low ≤ℤ (t -ℤ pos 1) → (t -ℤ pos 1) ≤ℤ high → Has (near low high ts) (t -ℤ pos 1)
  near_below t h l m = near_of t (t -ℤ pos 1) h (inl refl) l m

  pub near_within : (x : ℤ) → Has (near low high ts) x → Within low high x
  near_within x h = within low high x (filter_has (is_between low high) (flat_map around ts) x h).passes

-- ---- the thresholds next to a number

-- the greatest threshold that is not above x
record Floor (ts : List ℤ) (x : ℤ) : Type 0 where
  pub floor : ℤ
  pub there : Has ts floor
  pub under : floor ≤ℤ x
  pub most : (t : ℤ) → Has ts t → t ≤ℤ x → t ≤ℤ floor

-- the least threshold that is not below x
record Ceiling (ts : List ℤ) (x : ℤ) : Type 0 where
  pub ceiling : ℤ
  pub there : Has ts ceiling
  pub over : x ≤ℤ ceiling
  pub least : (t : ℤ) → Has ts t → x ≤ℤ t → ceiling ≤ℤ t

-- each threshold is above x
abbrev NoFloor : List ℤ → ℤ → Type 0
NoFloor ts x = (t : ℤ) → Has ts t → x <ℤ t

abbrev NoCeiling : List ℤ → ℤ → Type 0
NoCeiling ts x = (t : ℤ) → Has ts t → t <ℤ x

module _ (s : ℤ) (ts : List ℤ) (x : ℤ) where
  first_floor : s ≤ℤ x → NoFloor ts x → Floor (s ∷ ts) x
  first_floor le none = record { floor = s; there = inl refl; under = le; most = most } where
    most : (t : ℤ) → Has (s ∷ ts) t → t ≤ℤ x → t ≤ℤ s
    most t (inl e) under = omega (arith, ints)
    most t (inr h) under = let no = none t h in absurd (omega (arith, ints))

  new_floor : s ≤ℤ x → (f : Floor ts x) → f.floor ≤ℤ s → Floor (s ∷ ts) x
  new_floor le f better = record { floor = s; there = inl refl; under = le; most = most } where
    most : (t : ℤ) → Has (s ∷ ts) t → t ≤ℤ x → t ≤ℤ s
    most t (inl e) under = omega (arith, ints)
    most t (inr h) under = let m = f.most t h under in omega (arith, ints)

  old_floor : (f : Floor ts x) → (s ≤ℤ x → s ≤ℤ f.floor) → Floor (s ∷ ts) x
  old_floor f worse = record { floor = f.floor; there = inr f.there; under = f.under; most = most } where
    most : (t : ℤ) → Has (s ∷ ts) t → t ≤ℤ x → t ≤ℤ f.floor
    most t (inl e) under = let h : s ≤ℤ x = omega (arith, ints) in let w = worse h in omega (arith, ints)
    most t (inr h) under = f.most t h under

  no_floor_yet : x <ℤ s → NoFloor ts x → NoFloor (s ∷ ts) x
  no_floor_yet lt none t (inl e) = omega (arith, ints)
  no_floor_yet lt none t (inr h) = none t h

floor_of : (ts : List ℤ) (x : ℤ) → Floor ts x ⊎ NoFloor ts x
floor_of [] x = inr (λ t h. absurd h)
floor_of (s ∷ ts) x = by (floor_of ts x) where
  by : Floor ts x ⊎ NoFloor ts x → Floor (s ∷ ts) x ⊎ NoFloor (s ∷ ts) x
  by (inl f) = by_lt_z x s (λ lt. inl (old_floor s ts x f (λ le. absurd (omega (arith, ints)))))
      (λ le. by_lt_z s f.floor (λ lt. inl (old_floor s ts x f (λ h. omega (arith, ints)))) (λ better. inl (new_floor s ts x le f better)))
  by (inr none) = by_lt_z x s (λ lt. inr (no_floor_yet s ts x lt none)) (λ le. inl (first_floor s ts x le none))

module _ (s : ℤ) (ts : List ℤ) (x : ℤ) where
  first_ceiling : x ≤ℤ s → NoCeiling ts x → Ceiling (s ∷ ts) x
  first_ceiling le none = record { ceiling = s; there = inl refl; over = le; least = least } where
    least : (t : ℤ) → Has (s ∷ ts) t → x ≤ℤ t → s ≤ℤ t
    least t (inl e) over = omega (arith, ints)
    least t (inr h) over = let no = none t h in absurd (omega (arith, ints))

  new_ceiling : x ≤ℤ s → (c : Ceiling ts x) → s ≤ℤ c.ceiling → Ceiling (s ∷ ts) x
  new_ceiling le c better = record { ceiling = s; there = inl refl; over = le; least = least } where
    least : (t : ℤ) → Has (s ∷ ts) t → x ≤ℤ t → s ≤ℤ t
    least t (inl e) over = omega (arith, ints)
    least t (inr h) over = let m = c.least t h over in omega (arith, ints)

  old_ceiling : (c : Ceiling ts x) → (x ≤ℤ s → c.ceiling ≤ℤ s) → Ceiling (s ∷ ts) x
  old_ceiling c worse = record { ceiling = c.ceiling; there = inr c.there; over = c.over; least = least } where
    least : (t : ℤ) → Has (s ∷ ts) t → x ≤ℤ t → c.ceiling ≤ℤ t
    least t (inl e) over = let h : x ≤ℤ s = omega (arith, ints) in let w = worse h in omega (arith, ints)
    least t (inr h) over = c.least t h over

  no_ceiling_yet : s <ℤ x → NoCeiling ts x → NoCeiling (s ∷ ts) x
  no_ceiling_yet lt none t (inl e) = omega (arith, ints)
  no_ceiling_yet lt none t (inr h) = none t h

ceiling_of : (ts : List ℤ) (x : ℤ) → Ceiling ts x ⊎ NoCeiling ts x
ceiling_of [] x = inr (λ t h. absurd h)
ceiling_of (s ∷ ts) x = by (ceiling_of ts x) where
  by : Ceiling ts x ⊎ NoCeiling ts x → Ceiling (s ∷ ts) x ⊎ NoCeiling (s ∷ ts) x
  by (inl c) = by_lt_z s x (λ lt. inl (old_ceiling s ts x c (λ le. absurd (omega (arith, ints)))))
      (λ le. by_lt_z c.ceiling s (λ lt. inl (old_ceiling s ts x c (λ h. omega (arith, ints)))) (λ better. inl (new_ceiling s ts x le c better)))
  by (inr none) = by_lt_z s x (λ lt. inr (no_ceiling_yet s ts x lt none)) (λ le. inl (first_ceiling s ts x le none))

strictly : (a x : ℤ) → a ≤ℤ x → a ≢ x → a <ℤ x
strictly a x le ne = by_lt_z a x (λ lt. lt) (λ ge. let same : a ≡ x = omega (arith, ints) in absurd (ne same))

-- a number above the floor that is not above x is on the same sides as x, where x is no threshold
alike_above : (ts : List ℤ) (x y : ℤ) (f : Floor ts x) → f.floor <ℤ y → y ≤ℤ x → f.floor ≢ x → Alike ts x y
alike_above ts x y f low high ne t h = by_lt_z x t (λ lt. below lt (omega (arith, ints))) not_above where
  not_above : t ≤ℤ x → Side t x y
  not_above le =
      let m = f.most t h le in
      let lt = strictly f.floor x f.under ne in
      above (omega (arith, ints)) (omega (arith, ints))

alike_under : (ts : List ℤ) (x y : ℤ) (c : Ceiling ts x) → x ≤ℤ y → y <ℤ c.ceiling → x ≢ c.ceiling → Alike ts x y
alike_under ts x y c low high ne t h = by_lt_z t x (λ lt. above lt (omega (arith, ints))) not_below where
  not_below : x ≤ℤ t → Side t x y
  not_below le =
      let m = c.least t h le in
      let lt = strictly x c.ceiling c.over ne in
      below (omega (arith, ints)) (omega (arith, ints))

alike_none : (ts : List ℤ) (x y : ℤ) → NoFloor ts x → y ≤ℤ x → Alike ts x y
alike_none ts x y none le t h = let no = none t h in below no (omega (arith, ints))

-- ---- one alike point, of what is passed or given

-- a point on the same sides as x
pub record OnePoint (points ts : List ℤ) (x : ℤ) : Type 0 where
  pub point : ℤ
  pub there : Has points point
  pub alike : Alike ts x point

pub point_between : (low high x : ℤ) (cs : List ℤ) → low ≤ℤ x → x ≤ℤ high → OnePoint (points_between low high cs) cs x
point_between low high x [] l m = record { point = pos 0; there = inl refl; alike = λ t h. absurd h }
point_between low high x (c ∷ constants) l m = by (floor_of (c ∷ constants) x) where
  chosen : (y : ℤ) → Has (near low high (c ∷ constants)) y → Alike (c ∷ constants) x y → OnePoint (points_between low high (c ∷ constants)) (c ∷ constants) x
  chosen y h alike = record { point = y; there = in_ascending y (low ∷ high ∷ near low high (c ∷ constants)) (inr (inr h)); alike = alike }

  lowest : Alike (c ∷ constants) x low → OnePoint (points_between low high (c ∷ constants)) (c ∷ constants) x
  lowest alike = record { point = low; there = in_ascending low (low ∷ high ∷ near low high (c ∷ constants)) (inl refl); alike = alike }

  above_floor : (f : Floor (c ∷ constants) x) → f.floor ≢ x → low ≤ℤ f.floor → OnePoint (points_between low high (c ∷ constants)) (c ∷ constants) x
  above_floor f ne le =
      let lt = strictly f.floor x f.under ne in
      chosen (f.floor +ℤ pos 1) (near_above low high (c ∷ constants) f.floor f.there (omega (arith, ints)) (omega (arith, ints)))
      (alike_above (c ∷ constants) x (f.floor +ℤ pos 1) f (omega (arith, ints)) (omega (arith, ints)) ne)

  by_floor : (f : Floor (c ∷ constants) x) → (b : Bool) → int_eq f.floor x ≡ b → OnePoint (points_between low high (c ∷ constants)) (c ∷ constants) x
  by_floor f true e =
      let same = equals f.floor x e in
      chosen x (near_level low high (c ∷ constants) x (subst (λ (z : ℤ). Has (c ∷ constants) z) same f.there) l m) (λ t h. side_itself t x)
  by_floor f false e =
      let ne = differs f.floor x e in
      by_lt_z f.floor low (λ lt. lowest (alike_above (c ∷ constants) x low f lt l ne)) (λ le. above_floor f ne le)

  by : Floor (c ∷ constants) x ⊎ NoFloor (c ∷ constants) x → OnePoint (points_between low high (c ∷ constants)) (c ∷ constants) x
  by (inl f) = by_floor f (int_eq f.floor x) refl
  by (inr none) = lowest (alike_none (c ∷ constants) x low none l)

-- ---- alike points of a variable

-- x itself is a point, or two different points are alike.
pub data Near : List ℤ → List ℤ → ℤ → Type 0 where
  itself : {points ts : List ℤ} {x : ℤ} → Has points x → Near points ts x
  two : {points ts : List ℤ} {x : ℤ} (p q : ℤ) → p ≢ q → Has points p → Has points q → Alike ts x p → Alike ts x q → Near points ts x

-- the numbers beside two thresholds with x between them are two, or x is one of them
parted : (points ts : List ℤ) (x a b : ℤ) → a <ℤ x → x <ℤ b → Has points (a +ℤ pos 1) → Has points (b -ℤ pos 1) → Alike ts x (a +ℤ pos 1) → Alike ts x (b -ℤ pos 1) → Near points ts x
parted points ts x a b lt gt ph qh pa qa = by (int_eq (a +ℤ pos 1) x) refl where
  by : (c : Bool) → int_eq (a +ℤ pos 1) x ≡ c → Near points ts x
  by true e = itself (subst (λ (z : ℤ). Has points z) (equals (a +ℤ pos 1) x e) ph)
  by false e =
      let ne = differs (a +ℤ pos 1) x e in
      two (a +ℤ pos 1) (b -ℤ pos 1) (λ same. let at : (a +ℤ pos 1) ≡ x = omega (arith, ints) in ne at) ph qh pa qa

module _ (low high x : ℤ) (ts : List ℤ) (l : low ≤ℤ x) (m : x ≤ℤ high) where
  between_two : (f : Floor ts x) (c : Ceiling ts x) → low ≤ℤ f.floor → c.ceiling ≤ℤ high → f.floor ≢ x → x ≢ c.ceiling → Near (near low high ts) ts x
  between_two f c least most ne me =
      let lt = strictly f.floor x f.under ne in
      let gt = strictly x c.ceiling c.over me in
      parted (near low high ts) ts x f.floor c.ceiling lt gt
      (near_above low high ts f.floor f.there (omega (arith, ints)) (omega (arith, ints)))
      (near_below low high ts c.ceiling c.there (omega (arith, ints)) (omega (arith, ints)))
      (alike_above ts x (f.floor +ℤ pos 1) f (omega (arith, ints)) (omega (arith, ints)) ne)
      (alike_under ts x (c.ceiling -ℤ pos 1) c (omega (arith, ints)) (omega (arith, ints)) me)

  pub near_point : Has ts low → Has ts high → Near (near low high ts) ts x
  near_point hl hh = by (floor_of ts x) (ceiling_of ts x) where
    by : Floor ts x ⊎ NoFloor ts x → Ceiling ts x ⊎ NoCeiling ts x → Near (near low high ts) ts x
    by (inr none) c = let no = none low hl in absurd (omega (arith, ints))
    by (inl f) (inr none) = let no = none high hh in absurd (omega (arith, ints))
    by (inl f) (inl c) = by_equal (int_eq f.floor x) refl (int_eq c.ceiling x) refl where
      level : (t : ℤ) → Has ts t → int_eq t x ≡ true → Near (near low high ts) ts x
      level t h e = itself (near_level low high ts x (subst (λ (z : ℤ). Has ts z) (equals t x e) h) l m)

      by_equal : (b : Bool) → int_eq f.floor x ≡ b → (d : Bool) → int_eq c.ceiling x ≡ d → Near (near low high ts) ts x
      by_equal true e d g = level f.floor f.there e
      by_equal false e true g = level c.ceiling c.there g
      by_equal false e false g = between_two f c (f.most low hl l) (c.least high hh m) (differs f.floor x e) (λ e. differs c.ceiling x g (sym e))
