-- The operands that an instruction takes: each fits its type, which is what is wanted.
use Rattle.std.proofs.Common.{◌≡◌, Bool, true, false, List, [], ◌∷◌, ◌++◌, reverse, refl}
use Rattle.std.specs.Prelude.{◌&&◌}
use Rattle.std.proofs.lemmas.Bool.{and_parts}
use Rattle.cert_format.specs.declared.typing.VType.{VType}
use Rattle.insn_codec.specs.Following.{Paired}
use Rattle.bytecode_model.specs.Wants.{Want, all_met}
use Rattle.guest_heap.specs.declared.value.Value.{Value}

module _ (of : Value → VType → Bool) where
  -- one operand, above those that fit the rest
  pub record One (want : Want) (taken rest : List VType) (items : List Value) : Type 0 where
    pub value : Value
    pub type : VType
    pub below : List Value
    pub items_are : items ≡ value ∷ below
    pub taken_are : taken ≡ type ∷ []
    pub fits : of value type ≡ true
    pub met : want type ≡ true
    pub left : Paired of below rest

  pub one_taken : (want : Want) (taken rest : List VType) (items : List Value) → all_met (want ∷ []) taken ≡ true → Paired of items (reverse taken ++ rest)
      → One want taken rest items
  one_taken want [] rest items e p = absurd cc
  one_taken want (t ∷ []) rest [] e p = absurd p
  one_taken want (t ∷ []) rest (v ∷ below) e p =
      record { value = v; type = t; below = below; items_are = refl; taken_are = refl; fits = p.0; met = (and_parts (want t) true e).0; left = p.1 }
  one_taken want (t ∷ u ∷ taken) rest items e p = let h : false ≡ true = (and_parts (want t) false e).1 in absurd cc

  -- two, the lower and the upper one
  pub record Two (low high : Want) (taken rest : List VType) (items : List Value) : Type 0 where
    pub lower : Value
    pub upper : Value
    pub low_type : VType
    pub high_type : VType
    pub below : List Value
    pub items_are : items ≡ upper ∷ lower ∷ below
    pub taken_are : taken ≡ low_type ∷ high_type ∷ []
    pub lower_fits : of lower low_type ≡ true
    pub upper_fits : of upper high_type ≡ true
    pub low_met : low low_type ≡ true
    pub high_met : high high_type ≡ true
    pub left : Paired of below rest

  pub two_taken : (low high : Want) (taken rest : List VType) (items : List Value) → all_met (low ∷ high ∷ []) taken ≡ true
      → Paired of items (reverse taken ++ rest) → Two low high taken rest items
  two_taken low high [] rest items e p = absurd cc
  two_taken low high (t ∷ []) rest items e p = let h : false ≡ true = (and_parts (low t) false e).1 in absurd cc
  two_taken low high (t ∷ u ∷ []) rest [] e p = absurd p
  two_taken low high (t ∷ u ∷ []) rest (v ∷ []) e p = absurd p.1
  two_taken low high (t ∷ u ∷ []) rest (v ∷ w ∷ below) e p =
      let a = and_parts (low t) (high u && true) e in
      record {
        lower = w;
        upper = v;
        low_type = t;
        high_type = u;
        below = below;
        items_are = refl;
        taken_are = refl;
        lower_fits = p.1.0;
        upper_fits = p.0;
        low_met = a.0;
        high_met = (and_parts (high u) true a.1).0;
        left = p.1.1;
      }
  two_taken low high (t ∷ u ∷ x ∷ taken) rest items e p =
      let a = and_parts (low t) (high u && false) e in let h : false ≡ true = (and_parts (high u) false a.1).1 in absurd cc

  -- three, from the lowest one
  pub record Three (low middle high : Want) (taken rest : List VType) (items : List Value) : Type 0 where
    pub lower : Value
    pub between : Value
    pub upper : Value
    pub low_type : VType
    pub middle_type : VType
    pub high_type : VType
    pub below : List Value
    pub items_are : items ≡ upper ∷ between ∷ lower ∷ below
    pub taken_are : taken ≡ low_type ∷ middle_type ∷ high_type ∷ []
    pub lower_fits : of lower low_type ≡ true
    pub between_fits : of between middle_type ≡ true
    pub upper_fits : of upper high_type ≡ true
    pub low_met : low low_type ≡ true
    pub middle_met : middle middle_type ≡ true
    pub high_met : high high_type ≡ true
    pub left : Paired of below rest

  pub three_taken : (low middle high : Want) (taken rest : List VType) (items : List Value) → all_met (low ∷ middle ∷ high ∷ []) taken ≡ true
      → Paired of items (reverse taken ++ rest) → Three low middle high taken rest items
  three_taken low middle high [] rest items e p = absurd cc
  three_taken low middle high (t ∷ []) rest items e p = let h : false ≡ true = (and_parts (low t) false e).1 in absurd cc
  three_taken low middle high (t ∷ u ∷ []) rest items e p =
      let a = and_parts (low t) (middle u && false) e in let h : false ≡ true = (and_parts (middle u) false a.1).1 in absurd cc
  three_taken low middle high (t ∷ u ∷ x ∷ []) rest [] e p = absurd p
  three_taken low middle high (t ∷ u ∷ x ∷ []) rest (v ∷ []) e p = absurd p.1
  three_taken low middle high (t ∷ u ∷ x ∷ []) rest (v ∷ w ∷ []) e p = absurd p.1.1
  three_taken low middle high (t ∷ u ∷ x ∷ []) rest (v ∷ w ∷ z ∷ below) e p =
      let a = and_parts (low t) (middle u && (high x && true)) e in
      let b = and_parts (middle u) (high x && true) a.1 in
      record {
        lower = z;
        between = w;
        upper = v;
        low_type = t;
        middle_type = u;
        high_type = x;
        below = below;
        items_are = refl;
        taken_are = refl;
        lower_fits = p.1.1.0;
        between_fits = p.1.0;
        upper_fits = p.0;
        low_met = a.0;
        middle_met = b.0;
        high_met = (and_parts (high x) true b.1).0;
        left = p.1.1.1;
      }
  three_taken low middle high (t ∷ u ∷ x ∷ y ∷ taken) rest items e p =
      let a = and_parts (low t) (middle u && (high x && false)) e in
      let b = and_parts (middle u) (high x && false) a.1 in let h : false ≡ true = (and_parts (high x) false b.1).1 in absurd cc
