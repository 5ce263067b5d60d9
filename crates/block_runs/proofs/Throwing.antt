-- What an instruction of a block throws the machine throws.
use Rattle.std.proofs.Common.{◌≡◌, ℕ, ◌+◌, ℤ, Bool, true, false, List, ◌∷◌, length, Option, Some, None, refl, sym, ap, ◌∙◌}
use Rattle.std.specs.Prelude.{◌==◌, ◌&&◌, if◌then◌else◌, nat_lt, not, option_and_then, slice_get, slice_set}
use Rattle.std.specs.Option.{option_map_or}
use Rattle.std.proofs.lemmas.Bool.{eqb-true}
use Rattle.bytecode_model.specs.declared.program.Target.TheVariants as target
use Rattle.insn_codec.specs.declared.insn.Insn.TheVariants as insns
use Rattle.insn_codec.specs.declared.shape.Shape.{Shape}
use Rattle.insn_codec.specs.declared.shape.Shape.TheVariants as shapes
use Rattle.insn_codec.specs.declared.opcodes.TheConstants.{ATHROW, GETSTATIC, INVOKESTATIC, LDC_W, MONITORENTER, MONITOREXIT, PUTSTATIC}
use Rattle.insn_codec.specs.Control.{goes_to}
use Rattle.insn_codec.specs.Effect.{Moved, effect}
use Rattle.insn_codec.specs.Shapes.{branch_shape, local_shape, plain_shape}
use Rattle.offset_patch.specs.declared.block.BlockInsn.TheVariants.{Plain, Byte, Short, Local, Want, Jump, Call}
use Rattle.offset_patch.specs.declared.block.PoolWant.{PoolWant}
use Rattle.offset_patch.specs.declared.block.PoolWant.TheVariants as wants
use Rattle.guest_heap.specs.declared.value.Value.{Value}
use Rattle.guest_heap.specs.declared.value.Value.TheVariants as values
use Rattle.guest_frames.specs.Values.{are_one, is_null, values_moved, values_seen}
use Rattle.guest_model.specs.Changes.{world_of}
use Rattle.guest_model.specs.Parts.{number_in}
use Rattle.guest_model.specs.Stepping.{insn_stepped, throws_top}
use Rattle.block_runs.specs.Spots.{
  Goes,
  Spot,
  Stops,
  Stuck,
  Throws,
  Went,
  enters,
  frame_went,
  goes_with,
  leaves,
  plain_went,
  pushes,
  reads_field,
  stopped_by,
  takes_one,
  thrown,
  want_went,
  with_fields,
  with_lock,
  with_top,
  writes_field,
}
use Rattle.block_runs.specs.Steps.{ThrowsAreMade}

-- ---- what throws nothing

module _ (v : Value) where
  goes_never : (place : ℕ) (spot : Spot) (locals items : List Value) → goes_with place spot locals items ≡ Throws v → ⊥
  goes_never place spot locals items e = by (nat_lt spot.stack.size (length items)) e
    where
      by : (b : Bool)
          → (if b then Stuck else Goes place (record {
            stack = record { items = items; size = spot.stack.size };
            locals = locals;
            fields = spot.fields;
            locked = spot.locked;
          })) ≡ Throws v → ⊥
      by true e = cc
      by false e = cc

  frame_never : (shape : Shape) (next : ℕ) (spot : Spot) → frame_went shape next spot ≡ Throws v → ⊥
  frame_never shape next spot e = by (effect values_moved shape spot.locals spot.stack.items) e
    where
      place : ℕ
      place = goes_to values_seen (insns.GotoW next) shape next spot.stack.items

      by : (o : Option (Moved Value)) → option_map_or (λ (m : Moved Value). goes_with place spot m.0 m.1) o Stuck ≡ Throws v → ⊥
      by None e = cc
      by (Some m) e = goes_never place spot m.0 m.1 e

  if_throws : (b : Bool) (went : Went) → (if b then went else Stuck) ≡ Throws v → went ≡ Throws v
  if_throws true went e = e
  if_throws false went e = absurd cc

  -- what is on top
  record HasTop (spot : Spot) (f : Value → Went) : Type 0 where
    value : Value
    there : slice_get spot.stack.items 0 ≡ Some value
    is : f value ≡ Throws v

  top_throws : (spot : Spot) (f : Value → Went) → with_top spot f ≡ Throws v → HasTop spot f
  top_throws spot f e = by (slice_get spot.stack.items 0) refl e
    where
      by : (o : Option Value) → slice_get spot.stack.items 0 ≡ o → option_map_or f o Stuck ≡ Throws v → HasTop spot f
      by None is e = absurd cc
      by (Some w) is e = record { value = w; there = is; is = e }

  top_never : (spot : Spot) (f : Value → Went) → ((w : Value) → f w ≡ Throws v → ⊥) → with_top spot f ≡ Throws v → ⊥
  top_never spot f never e =
      let top = top_throws spot f e in
      never top.value top.is

  enters_never : (state next : ℕ) (spot : Spot) → with_top spot (enters state next spot) ≡ Throws v → ⊥
  enters_never state next spot e =
      top_never spot (enters state next spot)
      (λ w f. goes_never next (with_lock spot true) spot.locals _ (if_throws (are_one w (values.Class state) && not spot.locked)
      (takes_one next (with_lock spot true)) f)) e

  leaves_never : (state next : ℕ) (spot : Spot) → with_top spot (leaves state next spot) ≡ Throws v → ⊥
  leaves_never state next spot e =
      top_never spot (leaves state next spot)
      (λ w f. goes_never next (with_lock spot false) spot.locals _ (if_throws (are_one w (values.Class state) && spot.locked)
      (takes_one next (with_lock spot false)) f)) e

  reads_never : (next : ℕ) (spot : Spot) (var : ℕ) → reads_field next spot var ≡ Throws v → ⊥
  reads_never next spot var e = by (slice_get spot.fields var) e
    where
      by : (o : Option Value) → option_map_or (pushes next spot) o Stuck ≡ Throws v → ⊥
      by None e = cc
      by (Some w) e = goes_never next spot spot.locals (w ∷ spot.stack.items) e

  writes_never : (next : ℕ) (spot : Spot) (var : ℕ) → with_top spot (writes_field next spot var) ≡ Throws v → ⊥
  writes_never next spot var e = top_never spot (writes_field next spot var) (λ w f. by w (slice_get spot.fields var) f) e
    where
      by : (w : Value) (o : Option Value) → option_map_or (λ (old : Value). takes_one next (with_fields spot
          (slice_set spot.fields var w))) o Stuck ≡ Throws v → ⊥
      by w None e = cc
      by w (Some old) e = goes_never next (with_fields spot (slice_set spot.fields var w)) spot.locals _ e

  stops_never : (spot : Spot) → with_top spot stopped_by ≡ Throws v → ⊥
  stops_never spot e = top_never spot stopped_by (λ w f. by (number_in w) f) e
    where
      by : (o : Option ℤ) → option_map_or Stops o Stuck ≡ Throws v → ⊥
      by None e = cc
      by (Some n) e = cc

  want_never : (state next : ℕ) (spot : Spot) (op : ℕ) (want : PoolWant) → want_went state next spot op want ≡ Throws v → ⊥
  want_never state next spot op wants.StateClass e = goes_never next spot spot.locals (values.Class state ∷ spot.stack.items)
      (if_throws (op == LDC_W) (pushes next spot (values.Class state)) e)
  want_never state next spot op (wants.Integer n) e = goes_never next spot spot.locals (values.Int n ∷ spot.stack.items) (if_throws
      (op == LDC_W) (pushes next spot (values.Int n)) e)
  want_never state next spot op (wants.StateField var is_bool) e = by (op == GETSTATIC) e
    where
      by : (b : Bool) → (if b then reads_field next spot var else if op == PUTSTATIC then with_top spot
          (writes_field next spot var) else Stuck) ≡ Throws v → ⊥
      by true e = reads_never next spot var e
      by false e = writes_never next spot var (if_throws (op == PUTSTATIC) (with_top spot (writes_field next spot var)) e)
  want_never state next spot op wants.Exit e = stops_never spot (if_throws (op == INVOKESTATIC) (with_top spot stopped_by) e)

  -- ---- athrow

  -- It throws what is on top, which is not null.
  record IsThrow (spot : Spot) (op : ℕ) : Type 0 where
    op_is : op ≡ ATHROW
    top : slice_get spot.stack.items 0 ≡ Some v
    there : is_null v ≡ false

  thrown_is : (w : Value) → thrown w ≡ Throws v → (w ≡ v) × (is_null w ≡ false)
  thrown_is w e = by (is_null w) refl e
    where
      by : (b : Bool) → is_null w ≡ b → (if b then Stuck else Throws w) ≡ Throws v → (w ≡ v) × (is_null w ≡ false)
      by true is e = absurd cc
      by false is e = (cc, is)

  throw_is : (state next : ℕ) (spot : Spot) (op : ℕ) → plain_went state next spot op ≡ Throws v → IsThrow spot op
  throw_is state next spot op e = first (op == MONITORENTER) e
    where
      third : (b : Bool) → (op == ATHROW) ≡ b → (if b then with_top spot thrown else frame_went (plain_shape op) next spot)
          ≡ Throws v → IsThrow spot op
      third true is e =
          let top = top_throws spot thrown e in
          let same = thrown_is top.value top.is in
          record { op_is = eqb-true op ATHROW is; top = top.there ∙ ap Some same.0; there = ap is_null (sym same.0) ∙ same.1 }
      third false is e = absurd (frame_never (plain_shape op) next spot e)

      second : (b : Bool)
          → (if b then with_top spot (leaves state next spot) else if op == ATHROW then with_top spot thrown else frame_went
          (plain_shape op) next spot) ≡ Throws v
          → IsThrow spot op
      second true e = absurd (leaves_never state next spot e)
      second false e = third (op == ATHROW) refl e

      first : (b : Bool)
          → (if b then with_top spot (enters state next spot)
          else if op == MONITOREXIT then with_top spot (leaves state next spot)
          else if op == ATHROW then with_top spot thrown
          else frame_went (plain_shape op) next spot) ≡ Throws v
          → IsThrow spot op
      first true e = absurd (enters_never state next spot e)
      first false e = second (op == MONITOREXIT) e

pub throws_are_made : ThrowsAreMade
throws_are_made program state pool fronts begin at own ref (Plain op) machine a spot stands v e =
    let is = throw_is v state.number (at + 1) spot op e in
    let top : slice_get a.frame.stack.items 0 ≡ Some v = ap (λ o. slice_get o.items 0) stands.stack ∙ is.top in
    let null : is_null v ≡ false = is.there in
    ap (λ (o : ℕ). insn_stepped program machine a (insns.Plain o, target.None)) is.op_is
    ∙ ap (option_and_then (throws_top program (world_of machine) a)) top ∙ rw null refl
throws_are_made program state pool fronts begin at own ref (Byte n) machine a spot stands v e = absurd (frame_never v (shapes.Push n)
    (at + 1) spot e)
throws_are_made program state pool fronts begin at own ref (Short n) machine a spot stands v e = absurd (frame_never v (shapes.Push n)
    (at + 1) spot e)
throws_are_made program state pool fronts begin at own ref (Local op slot wide) machine a spot stands v e = absurd (frame_never v
    (local_shape op slot) (at + 1) spot e)
throws_are_made program state pool fronts begin at own ref (Want op want) machine a spot stands v e = absurd
    (want_never v state.number (at + 1) spot op want e)
throws_are_made program state pool fronts begin at own ref (Jump op place) machine a spot stands v e = absurd (frame_never v
    (branch_shape op place) (at + 1) spot e)
throws_are_made program state pool fronts begin at own ref Call machine a spot stands v e = absurd cc
