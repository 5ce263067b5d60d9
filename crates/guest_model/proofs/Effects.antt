-- What holds of each local and operand holds of each after an instruction that works on its frame alone.
use Rattle.std.proofs.Common.{◌≡◌, ℕ, ℤ, List, [], ◌∷◌, ◌++◌, length, drop, Option, Some, None, refl, subst}
use Rattle.std.specs.Prelude.{slice_get, slice_set, option_map, nat_lt, nat_le}
use Rattle.std.specs.List.{AllByRecursion, filter_map, cons_option}
use Rattle.std.proofs.lemmas.Option.{cond_some}
use Rattle.insn_codec.specs.declared.forms.StackForm.{StackForm}
use Rattle.insn_codec.specs.declared.shape.ValueKind.{ValueKind}
use Rattle.insn_codec.specs.declared.shape.ValueKind.TheVariants as kinds
use Rattle.insn_codec.specs.declared.shape.One.{One}
use Rattle.insn_codec.specs.declared.shape.Shape.{Shape}
use Rattle.insn_codec.specs.declared.shape.Shape.TheVariants as shapes
use Rattle.insn_codec.specs.declared.shape.Two.{Two}
use Rattle.insn_codec.specs.declared.shape.Two.TheVariants as two
use Rattle.insn_codec.specs.Effect.{
  Domain,
  Moved,
  of_kind,
  operand,
  local,
  with_local,
  moved_by,
  without_one,
  without_two,
  made_reference,
  effect,
}
use Rattle.insn_codec.specs.Forms.{depth_of, order_of}
use Rattle.guest_model.proofs.Options.{and_then_of, map_of, all_get, all_set, all_append, all_drop}

-- what a shape names is such a number
abbrev pub NamesOnly : (ℤ → Type 0) → Shape → Type 0
NamesOnly Q (shapes.Push n) = Q n
NamesOnly Q (shapes.Increment slot by) = Q by
NamesOnly Q other = Unit {0}

module _ {V : Type 0} (d : Domain V) (P : V → Type 0) where
  -- what is made of values of which it holds, and what is made of none
  pub record IsKeptBy : Type 0 where
    pub none : P d.null
    pub of_two : (op : Two) (v w : V) → P v → P w → P (d.two op v w)
    pub of_one : (op : One) (v : V) → P v → P (d.one op v)

  abbrev Each : List V → Type 0
  Each values = AllByRecursion P values

  abbrev pub BothHold : Moved V → Type 0
  BothHold moved = Each moved.0 × Each moved.1

  both : (locals stack : List V) (moved : Moved V) → (locals, stack) ≡ moved → Each locals → Each stack → BothHold moved
  both locals stack moved e p q = subst BothHold e (p, q)

  some_moved : (x y : Moved V) → ◌≡◌ {A = Option (Moved V)} (Some x) (Some y) → x ≡ y
  some_moved x y h = cc

  of_operand : (kind : ValueKind) (i : ℕ) (values : List V) (v : V) → Each values → operand d kind i values ≡ Some v → P v
  of_operand kind i values v all e =
      let a = and_then_of (of_kind d kind) (slice_get values i) v e in
      let c = cond_some (d.fits kind a.0) a.0 v a.2 in
      subst P c.1 (all_get P values i a.0 all a.1)

  set_kept : (slot : ℕ) (v : V) (values set : List V) → Each values → P v → with_local slot v values ≡ Some set → Each set
  set_kept slot v values set all h e =
      let c = cond_some (nat_lt slot (length values)) (slice_set values slot v) set e in
      subst Each c.1 (all_set P values slot v all h)

  picked_one : (o : Option V) (others : List V) → ((v : V) → o ≡ Some v → P v) → Each others → Each (cons_option o others)
  picked_one None others h all = all
  picked_one (Some v) others h all = (h v refl, all)

  picked_kept : (values : List V) (order : List ℕ) → Each values → Each (filter_map (slice_get values) order)
  picked_kept values [] all = tt
  picked_kept values (i ∷ order) all =
      picked_one (slice_get values i) (filter_map (slice_get values) order) (λ v e. all_get P values i v all e)
      (picked_kept values order all)

  move_kept : (form : StackForm) (stack moved : List V) → Each stack → moved_by form stack ≡ Some moved → Each moved
  move_kept form stack moved all e =
      let c = cond_some (nat_le (depth_of form) (length stack))
      (filter_map (slice_get stack) (order_of form) ++ drop (depth_of form) stack) moved e in
      subst Each c.1
      (all_append P (filter_map (slice_get stack) (order_of form)) (drop (depth_of form) stack) (picked_kept stack (order_of form) all)
      (all_drop P (depth_of form) stack all))

  one_left : (kind : ValueKind) (stack left : List V) → Each stack → without_one d kind stack ≡ Some left → Each left
  one_left kind stack left all e =
      let m = map_of (λ (v : V). drop 1 stack) (operand d kind 0 stack) left e in subst Each m.2 (all_drop P 1 stack all)

  two_left : (kind : ValueKind) (stack left : List V) → Each stack → without_two d kind stack ≡ Some left → Each left
  two_left kind stack left all e =
      let a = and_then_of (λ (v : V). option_map (λ (w : V). drop 2 stack) (operand d kind 1 stack)) (operand d kind 0 stack) left e in
      let m = map_of (λ (w : V). drop 2 stack) (operand d kind 1 stack) left a.2 in
      subst Each m.2 (all_drop P 2 stack all)

  module _ (kept : IsKeptBy) (locals stack : List V) (moved : Moved V) (in_locals : Each locals) (on_stack : Each stack) where
    jumps_kept : (o : Option (List V)) → option_map (λ (left : List V). (locals, left)) o ≡ Some moved
        → ((left : List V) → o ≡ Some left → Each left) → BothHold moved
    jumps_kept o e next =
        let m = map_of (λ (left : List V). (locals, left)) o moved e in
        both locals m.0 moved m.2 in_locals (next m.0 m.1)

    pub effect_keeps : (shape : Shape) → NamesOnly (λ n. P (d.int n)) shape → effect d shape locals stack ≡ Some moved → BothHold moved
    effect_keeps shapes.Nothing names e = both locals stack moved (some_moved _ moved e) in_locals on_stack
    effect_keeps (shapes.Push n) names e = both locals (d.int n ∷ stack) moved (some_moved _ moved e) in_locals (names, on_stack)
    effect_keeps shapes.PushNull names e = both locals (d.null ∷ stack) moved (some_moved _ moved e) in_locals (kept.none, on_stack)
    effect_keeps (shapes.Load kind slot) names e =
        let m = map_of (λ (v : V). (locals, v ∷ stack)) (local d kind slot locals) moved e in
        both locals (m.0 ∷ stack) moved m.2 in_locals (of_operand kind slot locals m.0 in_locals m.1, on_stack)
    effect_keeps (shapes.Store kind slot) names e =
        let a = and_then_of (λ (v : V). option_map (λ (set : List V). (set, drop 1 stack)) (with_local slot v locals))
        (operand d kind 0 stack) moved e in
        let m = map_of (λ (set : List V). (set, drop 1 stack)) (with_local slot a.0 locals) moved a.2 in
        both m.0 (drop 1 stack) moved m.2 (set_kept slot a.0 locals m.0 in_locals (of_operand kind 0 stack a.0 on_stack a.1) m.1)
        (all_drop P 1 stack on_stack)
    effect_keeps (shapes.Move form) names e = jumps_kept (moved_by form stack) e (λ left h. move_kept form stack left on_stack h)
    effect_keeps (shapes.Two op) names e =
        let a = and_then_of (λ (y : V). option_map (λ (x : V). (locals, d.two op x y ∷ drop 2 stack)) (operand d kinds.Int 1 stack))
        (operand d kinds.Int 0 stack) moved e in
        let m = map_of (λ (x : V). (locals, d.two op x a.0 ∷ drop 2 stack)) (operand d kinds.Int 1 stack) moved a.2 in
        both locals (d.two op m.0 a.0 ∷ drop 2 stack) moved m.2 in_locals (
          kept.of_two op m.0 a.0 (of_operand kinds.Int 1 stack m.0 on_stack m.1)
              (of_operand kinds.Int 0 stack a.0 on_stack a.1),
          all_drop P 2 stack on_stack,
        )
    effect_keeps (shapes.One op) names e =
        let m = map_of (λ (x : V). (locals, d.one op x ∷ drop 1 stack)) (operand d kinds.Int 0 stack) moved e in
        both locals (d.one op m.0 ∷ drop 1 stack) moved m.2 in_locals
        (kept.of_one op m.0 (of_operand kinds.Int 0 stack m.0 on_stack m.1), all_drop P 1 stack on_stack)
    effect_keeps (shapes.Increment slot by) names e =
        let a = and_then_of (λ (x : V). option_map (λ (set : List V). (set, stack)) (with_local slot (d.two two.Add x (d.int by)) locals))
        (local d kinds.Int slot locals) moved e in
        let m = map_of (λ (set : List V). (set, stack)) (with_local slot (d.two two.Add a.0 (d.int by)) locals) moved a.2 in
        both m.0 stack moved m.2
        (set_kept slot (d.two two.Add a.0 (d.int by)) locals m.0 in_locals
        (kept.of_two two.Add a.0 (d.int by) (of_operand kinds.Int slot locals a.0 in_locals a.1) names) m.1) on_stack
    effect_keeps (shapes.Test relation to) names e =
        jumps_kept (without_one d kinds.Int stack) e (λ left h. one_left kinds.Int stack left on_stack h)
    effect_keeps (shapes.Compare relation to) names e =
        jumps_kept (without_two d kinds.Int stack) e (λ left h. two_left kinds.Int stack left on_stack h)
    effect_keeps (shapes.CompareReferences same to) names e =
        let a = and_then_of (λ (y : V). option_map (λ (x : V). (locals, drop 2 stack)) (made_reference d 1 stack))
        (made_reference d 0 stack) moved e in
        let m = map_of (λ (x : V). (locals, drop 2 stack)) (made_reference d 1 stack) moved a.2 in
        both locals (drop 2 stack) moved m.2 in_locals (all_drop P 2 stack on_stack)
    effect_keeps (shapes.TestNull null to) names e =
        let m = map_of (λ (x : V). (locals, drop 1 stack)) (made_reference d 0 stack) moved e in
        both locals (drop 1 stack) moved m.2 in_locals (all_drop P 1 stack on_stack)
    effect_keeps (shapes.Goto to) names e = both locals stack moved (some_moved _ moved e) in_locals on_stack
    effect_keeps shapes.Switch names e = jumps_kept (without_one d kinds.Int stack) e (λ left h. one_left kinds.Int stack left on_stack h)
    effect_keeps (shapes.Heap what) names e = absurd cc
