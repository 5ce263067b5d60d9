-- What is made of each choice of values: the states are the choices of numbers, and an event of a clause takes other values.
use Rattle.std.proofs.Common.{◌≡◌, ℕ, ℤ, List, [], ◌∷◌, ◌++◌, map, refl, sym, ap, ◌∙◌}
use Rattle.std.specs.Prelude.{flat_map}
use Rattle.std.specs.List.{enumerate_from}
use Rattle.api_listing.specs.declared.events.ApiValue.{ApiValue}
use Rattle.api_listing.specs.declared.events.ApiValue.TheVariants as api
use Rattle.api_listing.specs.declared.events.Event.{Event}
use Rattle.conspec_tree.specs.declared.types.Phase.{Phase}
use Rattle.conspec_tree.specs.declared.types.Phase.TheVariants.{Before, After, Exceptional}
use Rattle.conspec_tree.specs.declared.types.Var.{Var}
use Rattle.conspec_automaton.specs.declared.policy.Clause.{Clause}
use Rattle.conspec_automaton.specs.declared.policy.Policy.{Policy}
use Rattle.conspec_automaton.specs.Points.{each_choice, made, made_in, points_at, state_of, states_of, variable_numbers}
use Rattle.race_free_check.specs.Choosing.{IsMade, with_values}

-- ---- lists

map_twice : {X Y Z : Type 0} (g : Y → Z) (f : X → Y) (xs : List X) → map g (map f xs) ≡ map (λ x. g (f x)) xs
map_twice g f [] = refl
map_twice g f (x ∷ xs) = ap (λ (ys : List _). g (f x) ∷ ys) (map_twice g f xs)

map_joined : {X Y : Type 0} (f : X → Y) (xs ys : List X) → map f (xs ++ ys) ≡ map f xs ++ map f ys
map_joined f [] ys = refl
map_joined f (x ∷ xs) ys = ap (λ (zs : List _). f x ∷ zs) (map_joined f xs ys)

map_kept : {X : Type 0} (f : X → X) → ((x : X) → f x ≡ x) → (xs : List X) → map f xs ≡ xs
map_kept f kept [] = refl
map_kept f kept (x ∷ xs) = ap (λ (y : _). y ∷ map f xs) (kept x) ∙ ap (λ (ys : List _). x ∷ ys) (map_kept f kept xs)

-- ---- choices of values that are made of others

module _ {X Y : Type 0} (f : X → Y) where
  begun : (x : X) (rests : List (List X)) → map (λ (rest : List Y). f x ∷ rest) (map (map f) rests) ≡ map (map f) (map (λ rest. x ∷ rest) rests)
  begun x [] = refl
  begun x (rest ∷ rests) = ap (λ (ys : List (List Y)). (f x ∷ map f rest) ∷ ys) (begun x rests)

  choices_from : (xs : List X) (others : List (List X)) → each_choice (map (map f) others) ≡ map (map f) (each_choice others)
      → each_choice (map f xs ∷ map (map f) others) ≡ map (map f) (each_choice (xs ∷ others))
  choices_from [] others e = refl
  choices_from (x ∷ xs) others e =
      ap (λ (ys : List (List Y)). map (λ rest. f x ∷ rest) ys ++ flat_map (λ y. map (λ rest. y ∷ rest) (each_choice (map (map f) others))) (map f xs)) e
      ∙ ap (λ (ys : List (List Y)). ys ++ flat_map (λ y. map (λ rest. y ∷ rest) (each_choice (map (map f) others))) (map f xs)) (begun x (each_choice others))
      ∙ ap (λ (ys : List (List Y)). map (map f) (map (λ rest. x ∷ rest) (each_choice others)) ++ ys) (choices_from xs others e)
      ∙ sym (map_joined (map f) (map (λ rest. x ∷ rest) (each_choice others)) (flat_map (λ y. map (λ rest. y ∷ rest) (each_choice others)) xs))

  choices_made : (lists : List (List X)) → each_choice (map (map f) lists) ≡ map (map f) (each_choice lists)
  choices_made [] = refl
  choices_made (xs ∷ others) = choices_from xs others (choices_made others)

-- ---- states

state_of_ints : (numbers : List ℤ) → state_of (map api.Int numbers) ≡ numbers
state_of_ints [] = refl
state_of_ints (n ∷ numbers) = ap (λ (ns : List ℤ). n ∷ ns) (state_of_ints numbers)

module _ (policy : Policy) (cs : List Clause) where
  -- the numbers that are tried for each variable
  abbrev pub numbers_of : List (List ℤ)
  numbers_of = map (λ (v : ℕ × Var). variable_numbers policy.maxint cs v.0 v.1) (enumerate_from 0 policy.vars)

  -- The states that are tried are the choices of numbers.
  pub states_are : states_of policy cs ≡ each_choice numbers_of
  unfolding points_at
  states_are =
      ap (λ (lists : List (List ApiValue)). map state_of (each_choice lists)) (sym (map_twice (map api.Int) (λ (v : ℕ × Var). variable_numbers policy.maxint cs v.0 v.1) (enumerate_from 0 policy.vars)))
      ∙ ap (map state_of) (choices_made api.Int numbers_of)
      ∙ map_twice state_of (map api.Int) (each_choice numbers_of)
      ∙ map_kept (λ (numbers : List ℤ). state_of (map api.Int numbers)) state_of_ints (each_choice numbers_of)

-- ---- events

-- An event that a clause makes is one of it with other values too.
pub made_again : (c : Clause) (event : Event) (values : List ApiValue) → IsMade c event → with_values event values ≡ made c values
made_again c event values is = ap (λ (e : Event). with_values e values) is.1 ∙ by c.phase where
  by : (phase : Phase) → with_values (made_in c phase is.0) values ≡ made_in c phase values
  by Before = refl
  by After = refl
  by Exceptional = refl
