-- The initialisers of the classes, one class after the other.
use Rattle.std.proofs.Common.{◌≡◌, ℕ, zero, suc, ◌+◌, ◌<◌, List, [], ◌∷◌, ◌++◌, length, drop, Option, Some, None, option_to_list, refl, sym, ap, ◌∙◌, append_assoc, add-one, arith}
use Rattle.std.specs.Prelude.{option_and_then, slice_get}
use Rattle.std.specs.List.{cons_option, enumerate_from, filter_map}
use Rattle.bytecode_model.specs.declared.program.LinkedClass.{LinkedClass}
use Rattle.bytecode_model.specs.declared.program.Program.{Program}
use Rattle.guest_model.specs.Finding.{Given}
use Rattle.guest_model.specs.Runs.{initialiser_of, initialisers}
use Rattle.guest_step.specs.Start.{initialiser_at}

-- the initialisers of the classes from this one on, which have indices from the number on
abbrev pub initialisers_from : List LinkedClass → ℕ → ℕ → List Given
initialisers_from classes number class = filter_map initialiser_of (enumerate_from number (drop class classes))

put_in_front : (o : Option Given) (others : List Given) → cons_option o others ≡ option_to_list o ++ others
put_in_front None others = refl
put_in_front (Some first) others = refl

one_more : (classes : List LinkedClass) (number class : ℕ) → class < length classes
    → initialisers_from classes number class
    ≡ option_to_list (option_and_then (λ (c : LinkedClass). initialiser_of (number, c)) (slice_get classes class)) ++ initialisers_from classes (number + 1) (suc class)
one_more [] number class within = absurd (omega (arith, within))
one_more (c ∷ others) number zero within = put_in_front (initialiser_of (number, c)) (filter_map initialiser_of (enumerate_from (number + 1) others))
one_more (c ∷ others) number (suc class) within = one_more others number class (omega (arith, within))

module _ (program : Program) where
  pub goes_on : (class : ℕ) (found more : List Given) → class < length program.classes → more ≡ found ++ option_to_list (initialiser_at program class)
      → found ++ initialisers_from program.classes class class ≡ initialisers program
      → more ++ initialisers_from program.classes (class + 1) (class + 1) ≡ initialisers program
  goes_on class found more within is before =
      let one = option_to_list (initialiser_at program class) in
      let later = initialisers_from program.classes (class + 1) in
      let split : initialisers_from program.classes class class ≡ one ++ later (class + 1) =
      one_more program.classes class class within ∙ ap (λ (k : ℕ). one ++ later k) (sym (add-one class)) in
      ap (λ (f : List Given). f ++ later (class + 1)) is ∙ append_assoc found one (later (class + 1))
      ∙ ap (λ (f : List Given). found ++ f) (sym split) ∙ before
