-- For each event that fits a clause, one of those that are tried passes or gives alike numbers.
use Rattle.std.proofs.Common.{◌≡◌, inl, ℕ, zero, suc, ◌+◌, ℤ, true, List, [], ◌∷◌, map, Option, Some, None, refl, subst, arith}
use Rattle.std.specs.Prelude.{is_some, option_and_then, slice_get}
use Rattle.std.proofs.lemmas.Bool.{false≢true}
use Rattle.std.specs.List.{enumerate_from}
use Rattle.std.specs.Option.{option_map_or}
use Rattle.api_listing.specs.declared.events.ApiValue.{ApiValue}
use Rattle.api_listing.specs.declared.events.ApiValue.TheVariants as api
use Rattle.conspec_tree.specs.declared.types.Base.TheVariants as bases
use Rattle.conspec_tree.specs.declared.types.Kind.{Kind}
use Rattle.conspec_tree.specs.declared.types.Kind.TheVariants as kinds
use Rattle.conspec_automaton.specs.declared.policy.Clause.{Clause}
use Rattle.conspec_tree.specs.Kinds.{number_range, passed_range, is_number}
use Rattle.conspec_automaton.specs.Events.{IsNumberOf}
use Rattle.conspec_automaton.specs.Next.{number_in}
use Rattle.conspec_automaton.specs.Points.{Argument, Result, constants_of, points_at, points_between, values_in}
use Rattle.race_free_check.proofs.EachChoice.{Choice}
use Rattle.race_free_check.proofs.Members.{Among, Has, in_map}
use Rattle.race_free_check.proofs.Nearest.{point_between}
use Rattle.race_free_check.proofs.Thresholds.{Alike, Side, within}
use Rattle.race_free_check.proofs.Sides.{Meets}

-- ---- numbers

-- a value that is a number, and another on the same side of each threshold
pub record Numbers (ts : List ℤ) (given tried : Option ApiValue) : Type 0 where
  pub number : ℤ
  pub other : ℤ
  pub is : given ≡ Some (api.Int number)
  pub tried_is : tried ≡ Some (api.Int other)
  pub alike : Alike ts number other

pub numbers_meet : (ts : List ℤ) (k : ℤ) (given tried : Option ApiValue) → Has ts k → Numbers ts given tried → Meets (Side k) (option_and_then number_in given) (option_and_then number_in tried)
numbers_meet ts k given tried h n = rw (n.is, n.tried_is) (n.alike k h)

-- Where there is a range, the value is a number, and the one that is tried is alike.
abbrev pub NumbersOf : Option (ℤ × ℤ) → List ℤ → Option ApiValue → Option ApiValue → Type 0
NumbersOf None ts given tried = Unit {0}
NumbersOf (Some range) ts given tried = Numbers ts given tried

try_value : (given : Option ApiValue) (range : Option (ℤ × ℤ)) (ts : List ℤ) → IsNumberOf range given → Among (values_in range ts) (λ (tried : ApiValue). NumbersOf range ts given (Some tried))
try_value given None ts number = record { item = api.Null; there = inl refl; so = tt }
try_value given (Some range) ts number =
    let w = within range.0 range.1 number.0 number.2 in
    let found = point_between range.0 range.1 number.0 ts w.least w.most in
    record {
      item = api.Int found.point;
      there = in_map api.Int (points_between range.0 range.1 ts) found.point found.there;
      so = record { number = number.0; other = found.point; is = number.1; tried_is = refl; alike = found.alike };
    }

-- ---- types of numbers

record HasRange (kind : Kind) : Type 0 where
  pub range : ℤ × ℤ
  pub is : number_range kind ≡ Some range

has_range : (kind : Kind) → is_number kind ≡ true → HasRange kind
has_range kind number = by (number_range kind) refl number where
  by : (o : Option (ℤ × ℤ)) → number_range kind ≡ o → is_some o ≡ true → HasRange kind
  by (Some range) is some = record { range = range; is = is }
  by None is some = absurd (false≢true some)

pub numbers_given : (kind : Kind) (ts : List ℤ) (given tried : Option ApiValue) → is_number kind ≡ true → NumbersOf (number_range kind) ts given tried → Numbers ts given tried
numbers_given kind ts given tried ne n = let r = has_range kind ne in subst (λ (o : Option (ℤ × ℤ)). NumbersOf o ts given tried) r.is n

pub numbers_passed : (kind : Kind) (ts : List ℤ) (given tried : Option ApiValue) → is_number kind ≡ true → NumbersOf (passed_range kind) ts given tried → Numbers ts given tried
numbers_passed kind ts given tried ne n =
    let r = has_range kind ne in
    subst (λ (o : Option (ℤ × ℤ)). NumbersOf (option_and_then (λ own. number_range kinds.Int) o) ts given tried) r.is n

-- ---- arguments

module _ (clause : Clause) where
  abbrev pub argument_constants : ℕ → List ℤ
  argument_constants i = constants_of (bases.Arg i) (clause ∷ [])

  abbrev pub tried_from : ℕ → List Kind → List (List ApiValue)
  tried_from n args = map (λ (a : ℕ × Kind). points_at (clause ∷ []) (Argument a.0 a.1)) (enumerate_from n args)

  module _ (given : List ApiValue) where
    -- Where a number is asked, one is given; the first of the kinds has the number n.
    abbrev GivesFrom : ℕ → List Kind → Type 0
    GivesFrom n args = (j k : ℕ) (kind : Kind) → k ≡ n + j → slice_get args j ≡ Some kind → IsNumberOf (passed_range kind) (slice_get given k)

    pub record Tried (n : ℕ) (args : List Kind) : Type 0 where
      pub values : List ApiValue
      pub choice : Choice (tried_from n args) values
      pub tries : (j k : ℕ) (kind : Kind) → k ≡ n + j → slice_get args j ≡ Some kind → NumbersOf (passed_range kind) (argument_constants k) (slice_get given k) (slice_get values j)

    -- The argument at n is tried as one that is alike.
    abbrev TriesArgument : ℕ → Kind → ApiValue → Type 0
    TriesArgument n kind tried = NumbersOf (passed_range kind) (argument_constants n) (slice_get given n) (Some tried)

    pub try_all : (args : List Kind) (n : ℕ) → GivesFrom n args → Tried n args
    unfolding points_at
    try_all [] n gives = record { values = []; choice = tt; tries = λ j k kind e there. absurd cc }
    try_all (kind ∷ args) n gives =
        by (try_value (slice_get given n) (passed_range kind) (argument_constants n) (gives 0 n kind (omega arith) refl)) (try_all args (n + 1) (λ j k kind e there. gives (suc j) k kind (omega arith) there)) where
          tries : (here : Among (points_at (clause ∷ []) (Argument n kind)) (TriesArgument n kind)) (rest : Tried (n + 1) args) (j k : ℕ) (asked : Kind) → k ≡ n + j → slice_get (kind ∷ args) j ≡ Some asked
              → NumbersOf (passed_range asked) (argument_constants k) (slice_get given k) (slice_get (here.item ∷ rest.values) j)
          tries here rest zero k asked e there =
              let same : n ≡ k = omega arith in
              let kind_is : kind ≡ asked = cc in
              subst (λ (i : ℕ). NumbersOf (passed_range asked) (argument_constants i) (slice_get given i) (Some here.item)) same
              (subst (λ (q : Kind). TriesArgument n q here.item) kind_is here.so)
          tries here rest (suc j) k asked e there = rest.tries j k asked (omega arith) there

          by : Among (points_at (clause ∷ []) (Argument n kind)) (TriesArgument n kind) → Tried (n + 1) args → Tried n (kind ∷ args)
          by here rest = record { values = here.item ∷ rest.values; choice = (here.there, rest.choice); tries = tries here rest }

-- ---- results

module _ (clause : Clause) where
  abbrev pub result_constants : List ℤ
  result_constants = constants_of bases.Result (clause ∷ [])

  abbrev pub tried_results : Option Kind → List (List ApiValue)
  tried_results asked = option_map_or (λ kind. points_at (clause ∷ []) (Result kind) ∷ []) asked []

  module _ (given : Option ApiValue) where
    -- The result, where it is a number, is tried as one that is alike.
    abbrev TriesResult : Option Kind → Option ApiValue → Type 0
    TriesResult asked tried = (kind : Kind) → asked ≡ Some kind → NumbersOf (number_range kind) result_constants given tried

    pub record TriedResult (asked : Option Kind) : Type 0 where
      pub values : List ApiValue
      pub choice : Choice (tried_results asked) values
      pub tries : TriesResult asked (slice_get values 0)

    pub try_result : (asked : Option Kind) → ((kind : Kind) → asked ≡ Some kind → IsNumberOf (number_range kind) given) → TriedResult asked
    unfolding points_at
    try_result None fits = record { values = []; choice = tt; tries = λ kind e. absurd cc }
    try_result (Some first) fits =
        let t = try_value given (number_range first) result_constants (fits first refl) in
        record {
          values = t.item ∷ [];
          choice = (t.there, tt);
          tries = λ kind e. let same : first ≡ kind = cc in subst (λ (q : Kind). NumbersOf (number_range q) result_constants given (Some t.item)) same t.so;
        }
