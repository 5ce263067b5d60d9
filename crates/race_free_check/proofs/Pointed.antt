-- The points of variables, arguments and results, from lists with the same numbers as those that are defined.
use Rattle.std.proofs.Common.{◌≡◌, ℕ, ℤ, pos, Bool, true, false, List, [], ◌∷◌, ◌++◌, length, refl, sym, ap, subst, ◌∙◌}
use Rattle.std.specs.Prelude.{◌==◌, ◌||◌, FitsSigned}
use Rattle.std.specs.Int.{w32}
use Rattle.std.specs.Ordering.{int_eq}
use Rattle.std.specs.List.{AllByRecursion, filter_map}
use Rattle.std.proofs.lemmas.Bool.{true≢false}
use Rattle.conspec_tree.specs.declared.types.Var.{Var}
use Rattle.conspec_automaton.specs.declared.policy.Clause.{Clause}
use Rattle.conspec_automaton.specs.Points.{added_to, ascending, differences, is_named, marks, named_points, near, points_between, variable_numbers, shifts, sums, thresholds, updates_in}
use Rattle.race_free_check.specs.Small.{HasSame, has}
use Rattle.race_free_check.proofs.Bounded.{all_pushed, near_fits}
use Rattle.race_free_check.proofs.HavingSame.{differences_same, joined_has, near_same, sums_same}
use Rattle.race_free_check.proofs.Rising.{ascending_all, ascending_has, ascending_same}

in_order : (ns ms : List ℤ) → ms ≡ ascending ns → HasSame ms ns
in_order ns ms e = subst (λ (ks : List ℤ). HasSame ks ns) (sym e) (ascending_has ns)

joined : (ns ms ks : List ℤ) → HasSame ns ms → HasSame ms ks → HasSame ns ks
joined ns ms ks first second k = first k ∙ second k

module _ (i : ℕ) (cs : List Clause) where
  pub shifts_same : (addends ordered found : List ℤ) → addends ≡ filter_map (added_to i) (updates_in cs) → ordered ≡ ascending addends → found ≡ sums ordered → HasSame found (shifts i cs)
  shifts_same addends ordered found named order sum =
      subst (λ (ns : List ℤ). HasSame found (sums ns)) named
      (subst (λ (ns : List ℤ). HasSame ns (sums addends)) (sym sum) (sums_same ordered addends (in_order addends ordered order)))

  pub thresholds_same : (maxint : ℤ) (ms ss ms' ss' found ordered : List ℤ) → ms ≡ marks maxint i cs → ms' ≡ ascending ms → HasSame ss (shifts i cs) → ss' ≡ ascending ss → found ≡ differences ms' ss' → ordered ≡ ascending found → HasSame ordered (thresholds maxint i cs)
  thresholds_same maxint ms ss ms' ss' found ordered named order same order' differ order'' =
      joined ordered found (thresholds maxint i cs) (in_order found ordered order'')
      (subst (λ (ns : List ℤ). HasSame ns (thresholds maxint i cs)) (sym differ)
      (differences_same ms' (marks maxint i cs) ss' (shifts i cs)
      (subst (λ (ns : List ℤ). HasSame ms' ns) named (in_order ms ms' order)) (joined ss' ss (shifts i cs) (in_order ss ss' order') same)))

  pub points_are : (maxint : ℤ) (ts found points : List ℤ) → HasSame ts (thresholds maxint i cs) → found ≡ near (pos 0) maxint ts → points ≡ ascending found → points ≡ named_points maxint i false cs
  points_are maxint ts found points same beside order =
      order ∙ ap ascending beside ∙ ascending_same (near (pos 0) maxint ts) (near (pos 0) maxint (thresholds maxint i cs)) (near_same (pos 0) maxint ts (thresholds maxint i cs) same)

pub points_fit : (low high : ℤ) (ns found points : List ℤ) → FitsSigned w32 low → FitsSigned w32 high → found ≡ near low high ns → points ≡ ascending found → AllByRecursion (FitsSigned w32) points
points_fit low high ns found points least most beside order =
    subst (λ (ks : List ℤ). AllByRecursion (FitsSigned w32) ks) (sym order)
    (ascending_all (FitsSigned w32) found (subst (λ (ks : List ℤ). AllByRecursion (FitsSigned w32) ks) (sym beside) (near_fits low high ns least most)))

-- ---- the ends of a range

or_ends : (a b c : Bool) → ((a || (b || false)) || (c || false)) ≡ (b || (c || a))
or_ends true true c = refl
or_ends true false true = refl
or_ends true false false = refl
or_ends false true c = refl
or_ends false false true = refl
or_ends false false false = refl

ends_same : (low high : ℤ) (ns : List ℤ) → HasSame ((ns ++ low ∷ []) ++ high ∷ []) (low ∷ high ∷ ns)
ends_same low high ns k =
    joined_has (ns ++ low ∷ []) (high ∷ []) k
    ∙ ap (λ (b : Bool). b || (int_eq k high || false)) (joined_has ns (low ∷ []) k)
    ∙ or_ends (has ns k) (int_eq k low) (int_eq k high)

module _ (low high c : ℤ) (cs : List ℤ) where
  between_are : (found first second points : List ℤ) → found ≡ near low high (c ∷ cs) → first ≡ found ++ low ∷ [] → second ≡ first ++ high ∷ [] → points ≡ ascending second → points ≡ points_between low high (c ∷ cs)
  between_are found first second points beside e f order =
      order ∙ ap ascending (f ∙ ap (λ (ns : List ℤ). ns ++ high ∷ []) (e ∙ ap (λ (ns : List ℤ). ns ++ low ∷ []) beside))
      ∙ ascending_same ((near low high (c ∷ cs) ++ low ∷ []) ++ high ∷ []) (low ∷ high ∷ near low high (c ∷ cs)) (ends_same low high (near low high (c ∷ cs)))

module _ (low high : ℤ) (constants found first second points : List ℤ) (beside : found ≡ near low high constants) (e : first ≡ found ++ low ∷ []) (f : second ≡ first ++ high ∷ []) (order : points ≡ ascending second) where
  pub between_is : (length constants == 0) ≡ false → points ≡ points_between low high constants
  between_is some = by constants some beside where
    by : (cs : List ℤ) → (length cs == 0) ≡ false → found ≡ near low high cs → points ≡ points_between low high cs
    by [] some near_is = absurd (true≢false some)
    by (c ∷ cs) some near_is = between_are low high c cs found first second points near_is e f order

  pub between_fits : FitsSigned w32 low → FitsSigned w32 high → AllByRecursion (FitsSigned w32) points
  between_fits least most =
      let all = subst (λ (ks : List ℤ). AllByRecursion (FitsSigned w32) ks) (sym beside) (near_fits low high constants least most) in
      let more = subst (λ (ks : List ℤ). AllByRecursion (FitsSigned w32) ks) (sym e) (all_pushed (FitsSigned w32) found low all least) in
      let most_all = subst (λ (ks : List ℤ). AllByRecursion (FitsSigned w32) ks) (sym f) (all_pushed (FitsSigned w32) first high more most) in
      subst (λ (ks : List ℤ). AllByRecursion (FitsSigned w32) ks) (sym order) (ascending_all (FitsSigned w32) second most_all)

-- a named int variable has the points that are named
pub points_named : (maxint : ℤ) (i : ℕ) (cs : List Clause) (v : Var) (points : List ℤ) → true ≡ is_named i cs → v.is_bool ≡ false → points ≡ named_points maxint i false cs → points ≡ variable_numbers maxint cs i v
points_named maxint i cs v points named int is = rw (sym named, int) is
