-- The name in the descriptor of a class.
use Rattle.std.proofs.Common.{◌≡◌, ℕ, ◌+◌, ◌-◌, Bool, true, false, cond, List, [], ◌∷◌, ◌++◌, length, take, Option, Some, None, refl, ap, ◌∙◌, arith}
use Rattle.std.specs.Prelude.{◌&&◌, nat_lt, slice_index}
use Rattle.std.proofs.Math.Seq.{take-append_seam}
use Rattle.std.proofs.lemmas.Bool.{lt-ltb, eq-eqb}
use Rattle.std.proofs.lemmas.List.{length-append, get_or-append-add}
use Rattle.bytecode_model.specs.Arrays.{is_array}
use Rattle.bytecode_model.specs.Assigning.{class_name, named}

-- a name with the last byte of a descriptor after it
module _ (name : List ℕ) where
  abbrev ended : List ℕ
  ended = name ++ 59 ∷ []

  last_of : slice_index ended (length ended - 1) ≡ 59
  last_of =
      let at : length ended - 1 ≡ length name + 0 = omega (arith, length-append name (59 ∷ [])) in
      rw at (get_or-append-add name (59 ∷ []) 0 0)

  before_last : take (length ended - 1) ended ≡ name
  before_last =
      let at : length ended - 1 ≡ length name = omega (arith, length-append name (59 ∷ [])) in
      rw at (take-append_seam name (59 ∷ []))

  some_there : nat_lt 0 (length ended) ≡ true
  some_there = lt-ltb 0 _ (omega (arith, length-append name (59 ∷ [])))

  class_so : is_array name ≡ false → class_name name ≡ Some name
  class_so e = rw e refl

chosen : (a b : Bool) (x y : Option (List ℕ)) → a ≡ true → b ≡ true → x ≡ y → cond (a && b) x None ≡ y
chosen true true x y e f same = same
chosen true false x y e f same = absurd cc
chosen false b x y e f same = absurd cc

pub named_described : (name : List ℕ) → is_array name ≡ false → named (76 ∷ (name ++ 59 ∷ [])) ≡ Some name
named_described name apart =
    chosen _ _ _ (Some name) (some_there name) (eq-eqb _ 59 (last_of name)) (ap class_name (before_last name) ∙ class_so name apart)
