-- What an instruction does to its frame alone, with more locals behind those of the client.
use Rattle.std.proofs.Common.{◌≡◌, ℕ, ◌<◌, ◌≤◌, Bool, true, false, cond, List, ◌∷◌, length, take, drop, Option, Some, None, refl, sym, ap, ◌∙◌, subst, arith}
use Rattle.std.specs.Prelude.{nat_lt, slice_get, slice_set, option_map}
use Rattle.std.proofs.lemmas.Bool.{ltb-true, ltb-false}
use Rattle.insn_codec.specs.declared.shape.ValueKind.{ValueKind}
use Rattle.insn_codec.specs.declared.shape.ValueKind.TheVariants as kinds
use Rattle.insn_codec.specs.declared.shape.Shape.{Shape}
use Rattle.insn_codec.specs.declared.shape.Shape.TheVariants as shapes
use Rattle.insn_codec.specs.declared.shape.Two.TheVariants as two
use Rattle.insn_codec.specs.Effect.{Domain, Moved, effect, local, made_reference, moved_by, of_kind, operand, with_local, without_one, without_two}
use Rattle.guest_model.proofs.Options.{and_then_of}
use Rattle.guest_erasing.proofs.Alike.{Alike, alike_map, alike_none, alike_some, alike_then, same_map, same_then}
use Rattle.guest_erasing.proofs.Lists.{get_taken, many_set, many_taken, set_taken}

module _ {V : Type 0} (d : Domain V) (count total : ℕ) where
  -- the same operands, and the same first locals
  pub record MovedAlike (moved other : Moved V) : Type 0 where
    pub locals : take count other.0 ≡ moved.0
    pub many : length moved.0 ≡ count
    pub wide : length other.0 ≡ total
    pub stack : other.1 ≡ moved.1

  abbrev Same : V → V → Type 0
  Same v w = v ≡ w

  abbrev SetAlike : List V → List V → Type 0
  SetAlike set other = (take count other ≡ set) × ((length set ≡ count) × (length other ≡ total))

  local_alike : (kind : ValueKind) (slot : ℕ) (others : List V)
      → Alike Same (local d kind slot (take count others)) (local d kind slot others)
  unfolding Alike
  local_alike kind slot others v e =
      let a = and_then_of (of_kind d kind) (slice_get (take count others) slot) v e in
      (v, rw (get_taken count others slot a.0 a.1) a.2, refl)

  set_alike : (slot : ℕ) (v : V) (others : List V) → length (take count others) ≡ count → length others ≡ total
      → Alike SetAlike (with_local slot v (take count others)) (with_local slot v others)
  set_alike slot v others many wide = by (nat_lt slot (length (take count others))) (nat_lt slot (length others)) refl refl where
    by : (b c : Bool) → nat_lt slot (length (take count others)) ≡ b → nat_lt slot (length others) ≡ c
        → Alike SetAlike (cond b (Some (slice_set (take count others) slot v)) None) (cond c (Some (slice_set others slot v)) None)
    by false c e k = alike_none SetAlike _
    by true true e k = alike_some SetAlike _ _ (set_taken count others slot v, (many_set (take count others) slot v ∙ many, many_set others slot v ∙ wide))
    by true false e k =
        absurd (let h : slot < length (take count others) = ltb-true slot (length (take count others)) e in
        let l : length (take count others) ≤ length others = many_taken count others in
        let m : length others ≤ slot = ltb-false slot (length others) k in omega arith)

  module _ (others stack : List V) (many : length (take count others) ≡ count) (wide : length others ≡ total) where
    abbrev Made : Option (Moved V) → Option (Moved V) → Type 0
    Made = Alike MovedAlike

    with_stack : (items : List V) → MovedAlike (take count others, items) (others, items)
    with_stack items = record { locals = refl; many = many; wide = wide; stack = refl }

    jumps : (o : Option (List V))
        → Made (option_map (λ (left : List V). (take count others, left)) o) (option_map (λ (left : List V). (others, left)) o)
    jumps o = same_map MovedAlike _ _ o (λ left e. with_stack left)

    pub effect_alike : (shape : Shape) → Made (effect d shape (take count others) stack) (effect d shape others stack)
    effect_alike shapes.Nothing = alike_some MovedAlike _ _ (with_stack stack)
    effect_alike (shapes.Push n) = alike_some MovedAlike _ _ (with_stack (d.int n ∷ stack))
    effect_alike shapes.PushNull = alike_some MovedAlike _ _ (with_stack (d.null ∷ stack))
    effect_alike (shapes.Load kind slot) =
        alike_map Same MovedAlike _ _ _ _ (local_alike kind slot others)
        (λ v w e f same. record { locals = refl; many = many; wide = wide; stack = ap (λ (x : V). x ∷ stack) (sym same) })
    effect_alike (shapes.Store kind slot) =
        same_then MovedAlike _ _ (operand d kind 0 stack)
        (λ v e. alike_map SetAlike MovedAlike _ _ _ _ (set_alike slot v others many wide)
        (λ set other f g is. record { locals = is.0; many = is.1.0; wide = is.1.1; stack = refl }))
    effect_alike (shapes.Move form) = jumps (moved_by form stack)
    effect_alike (shapes.Two op) =
        same_then MovedAlike _ _ (operand d kinds.Int 0 stack)
        (λ y e. same_map MovedAlike _ _ (operand d kinds.Int 1 stack) (λ x f. with_stack (d.two op x y ∷ drop 2 stack)))
    effect_alike (shapes.One op) = same_map MovedAlike _ _ (operand d kinds.Int 0 stack) (λ x e. with_stack (d.one op x ∷ drop 1 stack))
    effect_alike (shapes.Increment slot by) =
        alike_then Same MovedAlike _ _ _ _ (local_alike kinds.Int slot others)
        (λ v w e f same. subst (λ (x : V). Made
        (option_map (λ (set : List V). (set, stack)) (with_local slot (d.two two.Add v (d.int by)) (take count others)))
        (option_map (λ (set : List V). (set, stack)) (with_local slot (d.two two.Add x (d.int by)) others))) same
        (alike_map SetAlike MovedAlike _ _ _ _ (set_alike slot (d.two two.Add v (d.int by)) others many wide)
        (λ set other f g is. record { locals = is.0; many = is.1.0; wide = is.1.1; stack = refl })))
    effect_alike (shapes.Test relation to) = jumps (without_one d kinds.Int stack)
    effect_alike (shapes.Compare relation to) = jumps (without_two d kinds.Int stack)
    effect_alike (shapes.CompareReferences same to) =
        same_then MovedAlike _ _ (made_reference d 0 stack)
        (λ y e. same_map MovedAlike _ _ (made_reference d 1 stack) (λ x f. with_stack (drop 2 stack)))
    effect_alike (shapes.TestNull null to) = same_map MovedAlike _ _ (made_reference d 0 stack) (λ x e. with_stack (drop 1 stack))
    effect_alike (shapes.Goto to) = alike_some MovedAlike _ _ (with_stack stack)
    effect_alike shapes.Switch = jumps (without_one d kinds.Int stack)
    effect_alike (shapes.Heap what) = alike_none MovedAlike _
