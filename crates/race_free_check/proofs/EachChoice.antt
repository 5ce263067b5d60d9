-- All choices of one item of each list.
use Rattle.std.proofs.Common.{inl, inr, List, [], ◌∷◌, map, refl, subst}
use Rattle.conspec_automaton.specs.Points.{each_choice}
use Rattle.race_free_check.proofs.Members.{Has, flat_has, in_flat, in_map, map_has}

-- an item of each list, in order
abbrev pub Choice : {X : Type 0} → List (List X) → List X → Type 0
Choice [] [] = Unit {0}
Choice [] (y ∷ ys) = ⊥
Choice (xs ∷ others) [] = ⊥
Choice (xs ∷ others) (y ∷ ys) = Has xs y × Choice others ys

module _ {X : Type 0} where
  abbrev begun : List (List X) → X → List (List X)
  begun others x = map (λ (ys : List X). x ∷ ys) (each_choice others)

  pub in_each_choice : (lists : List (List X)) (ys : List X) → Choice lists ys → Has (each_choice lists) ys
  in_each_choice [] [] c = inl refl
  in_each_choice [] (y ∷ ys) c = absurd c
  in_each_choice (xs ∷ others) [] c = absurd c
  in_each_choice (xs ∷ others) (y ∷ ys) c = in_flat (begun others) xs y (y ∷ ys) c.0 (in_map (λ (ys : List X). y ∷ ys) (each_choice others) ys (in_each_choice others ys c.1))

  pub each_choice_has : (lists : List (List X)) (ys : List X) → Has (each_choice lists) ys → Choice lists ys
  each_choice_has [] ys (inl e) = subst (λ (zs : List X). Choice [] zs) e tt
  each_choice_has [] ys (inr h) = absurd h
  each_choice_has (xs ∷ others) ys h =
      let first = flat_has (begun others) xs ys h in
      let rest = map_has (λ (zs : List X). first.item ∷ zs) (each_choice others) ys first.so in
      subst (λ (zs : List X). Choice (xs ∷ others) zs) rest.so (first.there, each_choice_has others rest.item rest.there)
