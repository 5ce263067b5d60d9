-- Where the parts of a woven method stand: the block of an instruction, or the instruction alone.
use Rattle.std.proofs.Common.{◌≡◌, ℕ, zero, suc, ◌+◌, ◌-◌, ◌<◌, ◌≤◌, List, [], ◌∷◌, length, map, refl, ap, ◌∙◌, inl, inr, arith, length-append}
use Rattle.std.specs.List.{flat_map}
use Rattle.std.specs.Prelude.{Some, nat_lt, slice_get, slice_index, option_map}
use Rattle.std.proofs.lemmas.List.{length-map}
use Rattle.std.proofs.lemmas.Bool.{cases_Bool, ltb-true}
use Rattle.std.proofs.lemmas.Bool.Decides.{nat_tests}
use Rattle.std.proofs.lemmas.Option.{slice_get-map, slice_get_within}
use Rattle.class_codec.specs.declared.tree.Const.{Const}
use Rattle.insn_codec.specs.declared.insn.Insn.{Insn}
use Rattle.bytecode_model.specs.declared.program.Target.{Target}
use Rattle.offset_patch.specs.declared.block.BlockInsn.{BlockInsn}
use Rattle.offset_patch.specs.Plan.{Plan}
use Rattle.offset_patch.specs.Splicing.{fronts_from, part_of, parts_from, put}
use Rattle.offset_patch.specs.Splicing.{part_named, parts_named}
use Rattle.class_weaving.proofs.Lists.{get_left, get_right}

module _ (plan : Plan) (base : ℕ) where
  abbrev pub part : Target → List BlockInsn
  part ref = part_of (plan.block base ref)

  -- ---- how many instructions stand before a part

  abbrev pub before : List Target → ℕ → ℕ
  before refs zero = 0
  before [] (suc i) = 0
  before (ref ∷ refs) (suc i) = length (part ref) + before refs i

  abbrev pub total : List Target → ℕ
  total [] = 0
  total (ref ∷ refs) = length (part ref) + total refs

  pub front_is : (refs : List Target) (at i : ℕ) → i ≤ length refs → slice_index (fronts_from at (map (plan.block base) refs)) i ≡ at + before refs i
  front_is [] at zero le = omega arith
  front_is [] at (suc i) le = absurd (omega arith)
  front_is (ref ∷ refs) at zero le = omega arith
  front_is (ref ∷ refs) at (suc i) le = front_is refs (at + length (part ref)) i (omega arith) ∙ omega arith

  pub before_end : (refs : List Target) → before refs (length refs) ≡ total refs
  before_end [] = refl
  before_end (ref ∷ refs) = ap (λ n. length (part ref) + n) (before_end refs)

  pub before_next : (refs : List Target) (i : ℕ) (ref : Target) → slice_get refs i ≡ Some ref → before refs (suc i) ≡ before refs i + length (part ref)
  before_next [] i ref e = absurd cc
  before_next (r ∷ refs) zero ref e =
      let same : r ≡ ref = cc in
      rw same (omega arith)
  before_next (r ∷ refs) (suc i) ref e = omega (arith, before_next refs i ref e)

  -- ---- each part has an instruction

  module _ (some : (ref : Target) → 0 < length (part ref)) where
    -- Parts that come later stand after.
    pub before_grows : (refs : List Target) (i j : ℕ) → i < j → j ≤ length refs → before refs i < before refs j
    before_grows [] i j lt le = absurd (omega arith)
    before_grows (ref ∷ refs) zero zero lt le = absurd (omega arith)
    before_grows (ref ∷ refs) zero (suc j) lt le = omega (arith, some ref)
    before_grows (ref ∷ refs) (suc i) zero lt le = absurd (omega arith)
    before_grows (ref ∷ refs) (suc i) (suc j) lt le = omega (arith, before_grows refs i j (omega arith) (omega arith))

    pub least : (refs : List Target) (i : ℕ) → i ≤ length refs → i ≤ before refs i
    least [] zero le = omega arith
    least [] (suc i) le = absurd (omega arith)
    least (r ∷ refs) zero le = omega arith
    least (r ∷ refs) (suc i) le = omega (arith, least refs i (omega (arith, le)), some r)

    -- What stands after a part is after each earlier part.
    pub before_reaches : (refs : List Target) (i j : ℕ) (ref : Target) → slice_get refs i ≡ Some ref → i < j → j ≤ length refs
        → before refs i + length (part ref) ≤ before refs j
    before_reaches refs i j ref e lt le =
        let next = before_next refs i ref e in
        elim (cases_Bool (nat_lt (suc i) j)) [
          | inl is ↦ omega (arith, next, before_grows refs (suc i) j (ltb-true _ _ is) le)
          | inr fails ↦
              let same : suc i ≡ j = grind (arith, nat_tests) in
              rw (← same) (omega (arith, next))
        ]

    -- An instruction stands in one part, at one place.
    pub once : (refs : List Target) (i j k l : ℕ) (r s : Target) → slice_get refs i ≡ Some r → slice_get refs j ≡ Some s
        → k < length (part r) → l < length (part s) → before refs i + k ≡ before refs j + l → i ≡ j
    once refs i j k l r s e f lt less same =
        let few_i : i < length refs = slice_get_within refs i r e in
        let few_j : j < length refs = slice_get_within refs j s f in
        elim (cases_Bool (nat_lt i j)) [
          | inl is ↦ absurd (omega (arith, same, lt, before_reaches refs i j r e (ltb-true _ _ is) (omega (arith, few_j))))
          | inr fails ↦
              elim (cases_Bool (nat_lt j i)) [
                | inl is ↦ absurd (omega (arith, same, less, before_reaches refs j i s f (ltb-true _ _ is) (omega (arith, few_i))))
                | inr none ↦ grind (arith, nat_tests)
              ]
        ]

  -- ---- which part an instruction is of

  pub record Located (refs : List Target) (at : ℕ) : Type 0 where
    pub own : ℕ
    pub place : ℕ
    pub ref : Target
    pub there : slice_get refs own ≡ Some ref
    pub within : place < length (part ref)
    pub is : at ≡ before refs own + place

  pub locate : (refs : List Target) (at : ℕ) → at < total refs → Located refs at
  locate [] at lt = absurd (omega arith)
  locate (ref ∷ refs) at lt =
      elim (cases_Bool (nat_lt at (length (part ref)))) [
        | inl is ↦ record { own = 0; place = at; ref = ref; there = refl; within = ltb-true _ _ is; is = omega arith }
        | inr fails ↦
            let past : length (part ref) ≤ at = grind (arith, nat_tests) in
            let later = locate refs (at - length (part ref)) (omega (arith, past, lt)) in
            record {
              own = suc later.own;
              place = later.place;
              ref = later.ref;
              there = later.there;
              within = later.within;
              is = omega (arith, past, later.is);
            }
      ]

  -- ---- what stands there

  pub named_at : (state : ℕ) (refs : List Target) (i k : ℕ) (ref : Target) → slice_get refs i ≡ Some ref → k < length (part ref)
      → slice_get (parts_named state refs (map (plan.block base) refs)) (before refs i + k) ≡ option_map (part_named state ref) (slice_get (part ref) k)
  named_at state [] i k ref e lt = absurd cc
  named_at state (r ∷ refs) zero k ref e lt =
      let same : r ≡ ref = cc in
      let at : 0 + k ≡ k = omega arith in
      rw (same, at)
      (get_left (map (part_named state ref) (part ref)) (parts_named state refs (map (plan.block base) refs)) k
      (omega (arith, lt, length-map (part ref) (part_named state ref)))
      ∙ slice_get-map (part_named state ref) (part ref) k)
  named_at state (r ∷ refs) (suc i) k ref e lt =
      let here : List Target = map (part_named state r) (part r) in
      let len : length here ≡ length (part r) = length-map (part r) (part_named state r) in
      let at : before (r ∷ refs) (suc i) + k ≡ length here + (before refs i + k) = omega (arith, len) in
      rw at (get_right here (parts_named state refs (map (plan.block base) refs)) (before refs i + k) ∙ named_at state refs i k ref e lt)

  pub insn_at : (pool : List Const) (fronts : List ℕ) (begin : ℕ) (own : List Insn) (refs : List Target) (i k : ℕ) (insn : Insn) (ref : Target)
      → slice_get own i ≡ Some insn → slice_get refs i ≡ Some ref → k < length (part ref)
      → slice_get (parts_from pool fronts begin own (map (plan.block base) refs)) (before refs i + k)
      ≡ option_map (put pool fronts (begin + before refs i) insn) (slice_get (part ref) k)
  insn_at pool fronts begin [] refs i k insn ref e f lt = absurd cc
  insn_at pool fronts begin (x ∷ own) [] i k insn ref e f lt = absurd cc
  insn_at pool fronts begin (x ∷ own) (r ∷ refs) zero k insn ref e f lt =
      let same : r ≡ ref = cc in
      let this : x ≡ insn = cc in
      let none : begin + 0 ≡ begin = omega arith in
      let at : 0 + k ≡ k = omega arith in
      rw (same, this, none, at)
      (get_left (map (put pool fronts begin insn) (part ref))
      (parts_from pool fronts (begin + length (part ref)) own (map (plan.block base) refs)) k
      (omega (arith, lt, length-map (part ref) (put pool fronts begin insn)))
      ∙ slice_get-map (put pool fronts begin insn) (part ref) k)
  insn_at pool fronts begin (x ∷ own) (r ∷ refs) (suc i) k insn ref e f lt =
      let here : List Insn = map (put pool fronts begin x) (part r) in
      let len : length here ≡ length (part r) = length-map (part r) (put pool fronts begin x) in
      let at : before (r ∷ refs) (suc i) + k ≡ length here + (before refs i + k) = omega (arith, len) in
      let from : begin + before (r ∷ refs) (suc i) ≡ (begin + length (part r)) + before refs i = omega arith in
      rw (at, from)
      (get_right here (parts_from pool fronts (begin + length (part r)) own (map (plan.block base) refs)) (before refs i + k)
      ∙ insn_at pool fronts (begin + length (part r)) own refs i k insn ref e f lt)

  pub insns_many : (pool : List Const) (fronts : List ℕ) (begin : ℕ) (own : List Insn) (refs : List Target) → length own ≡ length refs
      → length (parts_from pool fronts begin own (map (plan.block base) refs)) ≡ total refs
  insns_many pool fronts begin [] [] e = refl
  insns_many pool fronts begin [] (r ∷ refs) e = absurd (omega arith)
  insns_many pool fronts begin (x ∷ own) [] e = absurd (omega arith)
  insns_many pool fronts begin (x ∷ own) (r ∷ refs) e =
      let here : List Insn = map (put pool fronts begin x) (part r) in
      omega (
        arith,
        length-append here (parts_from pool fronts (begin + length (part r)) own (map (plan.block base) refs)),
        length-map (part r) (put pool fronts begin x),
        insns_many pool fronts (begin + length (part r)) own refs (omega arith),
      )

  -- what is told of each part, and is as long as the part
  pub told_at : {X : Type 0} (told : Target → List X) → ((ref : Target) → length (told ref) ≡ length (part ref)) → (refs : List Target) (i k : ℕ)
      (ref : Target) → slice_get refs i ≡ Some ref → k < length (part ref)
      → slice_get (flat_map told refs) (before refs i + k) ≡ slice_get (told ref) k
  told_at told long [] i k ref e lt = absurd cc
  told_at told long (r ∷ refs) zero k ref e lt =
      let same : r ≡ ref = cc in
      let at : 0 + k ≡ k = omega arith in
      rw (same, at) (get_left (told ref) (flat_map told refs) k (omega (arith, lt, long ref)))
  told_at told long (r ∷ refs) (suc i) k ref e lt =
      let at : before (r ∷ refs) (suc i) + k ≡ length (told r) + (before refs i + k) = omega (arith, long r) in
      rw at (get_right (told r) (flat_map told refs) (before refs i + k) ∙ told_at told long refs i k ref e lt)

  pub told_many : {X : Type 0} (told : Target → List X) → ((ref : Target) → length (told ref) ≡ length (part ref)) → (refs : List Target)
      → length (flat_map told refs) ≡ total refs
  told_many told long [] = refl
  told_many told long (ref ∷ refs) = omega (arith, length-append (told ref) (flat_map told refs), long ref, told_many told long refs)
