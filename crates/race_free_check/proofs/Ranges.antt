-- There are points of each variable, argument and result, and so states and events.
use Rattle.std.proofs.Common.{◌≡◌, ℕ, ◌+◌, ◌*◌, ◌<◌, ◌≤◌, ℤ, pos, Bool, true, false, List, [], ◌∷◌, length, map, Option, Some, None, refl, sym, subst, arith}
use Rattle.std.specs.Prelude.{◌≤ℤ◌, nat_le, if◌then◌else◌}
use Rattle.std.specs.List.{enumerate_from}
use Rattle.std.specs.Option.{option_map_or}
use Rattle.std.proofs.lemmas.List.{length-map}
use Rattle.api_listing.specs.declared.events.ApiValue.{ApiValue}
use Rattle.api_listing.specs.declared.events.ApiValue.TheVariants as api
use Rattle.std.proofs.Math.Nat.{mul-le-mul_left, mul_comm}
use Rattle.std.proofs.lemmas.Bool.{leb-true}
use Rattle.conspec_tree.specs.declared.types.Base.TheVariants as bases
use Rattle.conspec_tree.specs.declared.types.Kind.{Kind}
use Rattle.conspec_tree.specs.declared.types.Phase.{Phase}
use Rattle.conspec_tree.specs.declared.types.Phase.TheVariants.{Before, After, Exceptional}
use Rattle.conspec_tree.specs.declared.types.Var.{Var}
use Rattle.conspec_automaton.specs.declared.policy.Clause.{Clause}
use Rattle.conspec_automaton.specs.declared.policy.Policy.{Policy}
use Rattle.conspec_tree.specs.Kinds.{number_range, passed_range}
use Rattle.conspec_automaton.specs.Points.{Argument, Result, Variable, choices_of, constants_of, events_count, points_at, points_between, size_of, states_count, values_in, variable_numbers}
use Rattle.conspec_automaton.specs.Sound.{IsPolicy}
use Rattle.conspec_automaton.specs.Trying.{Placed, Trial, capped, clauses_of, is_small, most}
use Rattle.race_free_check.specs.Choosing.{event_choices}
use Rattle.race_free_check.proofs.Sizes.{some_between, some_points}

some_product : (a b : ℕ) → 0 < a → 0 < b → 0 < a * b
some_product a b first second = let le = mul-le-mul_left {m = 1} {n = b} a (omega arith) in omega arith

some_ints : (numbers : List ℤ) → 0 < length numbers → 0 < length (map api.Int numbers)
some_ints numbers some = subst (λ (n : ℕ). 0 < n) (sym (length-map numbers api.Int)) some

module _ (maxint : ℤ) (cs : List Clause) where
  abbrev points_from : ℕ → List Var → List (List ApiValue)
  points_from i vars = map (λ (v : ℕ × Var). points_at cs (Variable maxint v.0 v.1)) (enumerate_from i vars)

  -- ---- points of all variables

  length_points : (vars : List Var) (i : ℕ) → length (points_from i vars) ≡ length vars
  length_points [] i = refl
  length_points (v ∷ vars) i = let rest = length_points vars (i + 1) in omega arith

  some_states : pos 1 ≤ℤ maxint → (vars : List Var) (i : ℕ) → 0 < size_of (points_from i vars)
  unfolding points_at
  some_states positive [] i = omega arith
  some_states positive (v ∷ vars) i =
      some_product (length (points_at cs (Variable maxint i v))) (size_of (points_from (i + 1) vars)) (some_ints (variable_numbers maxint cs i v) (some_points maxint cs positive i v)) (some_states positive vars (i + 1))

pub few_choices : (policy : Policy) (cs : List Clause) → IsPolicy policy → length (choices_of policy cs) ≤ 16
few_choices policy cs sound = let e = length_points policy.maxint cs policy.vars 0 in let few = sound.few_vars in omega arith

-- ---- counts

module _ (c : Clause) where
  some_values : (range : Option (ℤ × ℤ)) (cs : List ℤ) → 0 < length (values_in range cs)
  some_values None cs = omega arith
  some_values (Some range) cs = some_ints (points_between range.0 range.1 cs) (some_between range.0 range.1 cs)

  some_arguments : (args : List Kind) (i : ℕ) → 0 < size_of (map (λ (a : ℕ × Kind). points_at (c ∷ []) (Argument a.0 a.1)) (enumerate_from i args))
  unfolding points_at
  some_arguments [] i = omega arith
  some_arguments (kind ∷ args) i =
      some_product (length (points_at (c ∷ []) (Argument i kind))) (size_of (map (λ (a : ℕ × Kind). points_at (c ∷ []) (Argument a.0 a.1)) (enumerate_from (i + 1) args)))
      (some_values (passed_range kind) (constants_of (bases.Arg i) (c ∷ []))) (some_arguments args (i + 1))

  some_results : (result : Option Kind) → 0 < size_of (option_map_or (λ kind. points_at (c ∷ []) (Result kind) ∷ []) result [])
  unfolding points_at
  some_results None = omega arith
  some_results (Some kind) = some_product (length (points_at (c ∷ []) (Result kind))) 1 (some_values (number_range kind) (constants_of bases.Result (c ∷ []))) (omega arith)

  some_events : (phase : Phase) → 0 < events_count c phase
  some_events Before = some_arguments c.args 0
  some_events After = some_results c.result
  some_events Exceptional = omega arith

few_of : (a b n : ℕ) → 0 < b → a * b ≤ n → a ≤ n
few_of a b n some few = let le = mul-le-mul_left {m = 1} {n = b} a (omega arith) in omega arith

few_counted : (n : ℕ) → nat_le (capped n) 1000000 ≡ true → n ≤ 1000000
few_counted n e = let few = leb-true (capped n) 1000000 e in by (nat_le n most) refl few where
  by : (b : Bool) → nat_le n most ≡ b → (if b then n else most) ≤ 1000000 → n ≤ 1000000
  by true f few = few
  by false f few = absurd (omega arith)

few_all : (s f g : ℕ) → 0 < s → 0 < f → 0 < g → nat_le (capped (s * (f * g))) 1000000 ≡ true → (s ≤ 1000000) × ((f ≤ 1000000) × (g ≤ 1000000))
few_all s f g some_s some_f some_g small =
    let all = few_counted (s * (f * g)) small in
    let inner = few_of (f * g) s 1000000 some_s (subst (λ (n : ℕ). n ≤ 1000000) (mul_comm s (f * g)) all) in
    (few_of s (f * g) 1000000 (some_product f g some_f some_g) all, (few_of f g 1000000 some_g inner, few_of g f 1000000 some_f (subst (λ (n : ℕ). n ≤ 1000000) (mul_comm f g) inner)))

-- Where a trial has few points, there are few states, and few events of each clause.
pub record AreFew (policy : Policy) (trial : Trial) : Type 0 where
  pub states : size_of (choices_of policy (clauses_of trial)) ≤ 1000000
  pub firsts : size_of (event_choices trial.first.1) ≤ 1000000
  pub seconds : (second : Placed) → trial.second ≡ Some second → size_of (event_choices second.1) ≤ 1000000

some_seconds : (second : Option Placed) → 0 < option_map_or (λ (c : Placed). events_count c.1 c.1.phase) second 1
some_seconds None = omega arith
some_seconds (Some second) = some_events second.1 second.1.phase

pub are_few : (policy : Policy) (trial : Trial) → IsPolicy policy → is_small policy trial ≡ true → AreFew policy trial
are_few policy trial sound small =
    let parts = few_all (states_count policy (clauses_of trial)) (events_count trial.first.1 trial.first.1.phase) (option_map_or (λ (c : Placed). events_count c.1 c.1.phase) trial.second 1)
    (some_states policy.maxint (clauses_of trial) sound.maxint_low policy.vars 0) (some_events trial.first.1 trial.first.1.phase) (some_seconds trial.second) small in
    record {
      states = parts.0;
      firsts = parts.1.0;
      seconds = λ second e. subst (λ (o : Option Placed). option_map_or (λ (c : Placed). events_count c.1 c.1.phase) o 1 ≤ 1000000) e parts.1.1;
    }
