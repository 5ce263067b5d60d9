-- What each instruction of a block does.
use Rattle.std.proofs.Common.{
  ◌≡◌,
  ℕ,
  ◌+◌,
  ◌<◌,
  ◌≤◌,
  ℤ,
  pos,
  neg_ℤ,
  Bool,
  true,
  false,
  List,
  ◌∷◌,
  length,
  Some,
  refl,
  sym,
  ap,
  ◌∙◌,
  subst,
  arith,
}
use Rattle.std.specs.Prelude.{◌&&◌, if◌then◌else◌, int_le, int_lt, nat_le, nat_lt, not, slice_get, slice_set}
use Rattle.std.specs.Int.{w32, int_wrapping_add}
use Rattle.std.specs.Ordering.{int_eq}
use Rattle.std.proofs.lemmas.Bool.{eq-eqb}
use Rattle.std.proofs.lemmas.Bool.Decides.{Decides-int_eq, nat_tests}
use Rattle.std.proofs.lemmas.Int.{ints}
use Rattle.std.proofs.lemmas.Option.{slice_get-get_or}
use Rattle.insn_codec.specs.declared.opcodes.TheConstants.{
  ICONST_M1,
  ICONST_0,
  ICONST_1,
  ICONST_2,
  ICONST_3,
  ICONST_4,
  ICONST_5,
  LDC_W,
  ILOAD,
  ALOAD,
  ILOAD_0,
  ALOAD_0,
  ISTORE,
  ASTORE,
  ISTORE_0,
  ASTORE_0,
  IADD,
  GOTO,
  GETSTATIC,
  PUTSTATIC,
  INVOKESTATIC,
  ATHROW,
  MONITORENTER,
  MONITOREXIT,
}
use Rattle.insn_codec.specs.declared.shape.ValueKind.TheVariants as operands
use Rattle.insn_codec.specs.declared.shape.Shape.{Shape}
use Rattle.insn_codec.specs.declared.shape.Shape.TheVariants as shapes
use Rattle.insn_codec.specs.Shapes.{local_shape}
use Rattle.conspec_tree.specs.declared.types.Kind.{Kind}
use Rattle.conspec_tree.specs.declared.types.Kind.TheVariants as kinds
use Rattle.conspec_tree.specs.declared.types.Rel.{Rel}
use Rattle.conspec_tree.specs.declared.types.Rel.TheVariants as relations
use Rattle.conspec_automaton.specs.Next.{relates}
use Rattle.offset_patch.specs.declared.block.BlockInsn.{BlockInsn}
use Rattle.offset_patch.specs.declared.block.BlockInsn.TheVariants.{Plain, Byte, Local, Want, Jump}
use Rattle.offset_patch.specs.declared.block.PoolWant.TheVariants.{StateClass, Exit}
use Rattle.block_template.specs.Pushing.{field, load, local, negated, push, store}
use Rattle.block_template.specs.Typed.{operand_of}
use Rattle.block_template.proofs.Insns.{chosen, four}
use Rattle.guest_heap.specs.declared.value.Value.{Value}
use Rattle.guest_heap.specs.declared.value.Value.TheVariants as values
use Rattle.guest_frames.specs.Values.{fits, is_null}
use Rattle.block_runs.specs.Spots.{Spot, Goes, Stops, Throws, block_insn_stepped, frame_went, goes_with, plain_went, pushes}

abbrev pub spot_at : ℕ → List Value → List Value → List Value → Bool → Spot
spot_at size items locals fields locked = record {
  stack = record { items = items; size = size };
  locals = locals;
  fields = fields;
  locked = locked;
}

no_more : (size count : ℕ) → count ≤ size → nat_lt size count ≡ false
no_more size count room = grind (arith, nat_tests)

module _ (state size next : ℕ) where
  -- What comes of the instruction, from one spot to another.
  abbrev pub Moves : BlockInsn → Spot → Spot → Type 0
  Moves insn spot after = block_insn_stepped state next spot insn ≡ Goes next after

  goes_now : (place : ℕ) (items old locals now fields : List Value) (locked : Bool) → length items ≤ size
      → goes_with place (spot_at size old locals fields locked) now items ≡ Goes place (spot_at size items now fields locked)
  goes_now place items old locals now fields locked room = rw (no_more size (length items) room) refl

  -- ---- locals

  -- loads and stores, in each of their forms
  local_went : (spot : Spot) (short op slot : ℕ) (shape : ℕ → Shape)
      → ((k : ℕ) → k < 4 → plain_went state next spot (short + k) ≡ frame_went (shape k) next spot) → local_shape op slot ≡ shape slot
      → block_insn_stepped state next spot (local short op slot) ≡ frame_went (shape slot) next spot
  local_went spot short op slot shape shorts long =
      chosen (λ (b : BlockInsn). block_insn_stepped state next spot b ≡ frame_went (shape slot) next spot) (nat_lt slot 4)
      (Plain (short + slot)) (Local op slot (nat_le 256 slot)) (λ e. shorts slot (grind (arith, nat_tests)))
      (λ e. ap (λ (s : Shape). frame_went s next spot) long)

  number_loaded : (spot : Spot) (slot : ℕ) → block_insn_stepped state next spot (local ILOAD_0 ILOAD slot)
      ≡ frame_went (shapes.Load operands.Int slot) next spot
  number_loaded spot slot =
      local_went spot ILOAD_0 ILOAD slot (shapes.Load operands.Int)
      (four (λ k. plain_went state next spot (ILOAD_0 + k) ≡ frame_went (shapes.Load operands.Int k) next spot) refl refl refl refl) refl

  object_loaded : (spot : Spot) (slot : ℕ) → block_insn_stepped state next spot (local ALOAD_0 ALOAD slot)
      ≡ frame_went (shapes.Load operands.Reference slot) next spot
  object_loaded spot slot =
      local_went spot ALOAD_0 ALOAD slot (shapes.Load operands.Reference)
      (four (λ k. plain_went state next spot (ALOAD_0 + k) ≡ frame_went
      (shapes.Load operands.Reference k) next spot) refl refl refl refl) refl

  number_stored : (spot : Spot) (slot : ℕ) → block_insn_stepped state next spot (local ISTORE_0 ISTORE slot)
      ≡ frame_went (shapes.Store operands.Int slot) next spot
  number_stored spot slot =
      local_went spot ISTORE_0 ISTORE slot (shapes.Store operands.Int)
      (four (λ k. plain_went state next spot (ISTORE_0 + k) ≡ frame_went
      (shapes.Store operands.Int k) next spot) refl refl refl refl) refl

  object_stored : (spot : Spot) (slot : ℕ) → block_insn_stepped state next spot (local ASTORE_0 ASTORE slot)
      ≡ frame_went (shapes.Store operands.Reference slot) next spot
  object_stored spot slot =
      local_went spot ASTORE_0 ASTORE slot (shapes.Store operands.Reference)
      (four (λ k. plain_went state next spot (ASTORE_0 + k) ≡ frame_went
      (shapes.Store operands.Reference k) next spot) refl refl refl refl) refl

  load_went : (spot : Spot) (kind : Kind) (slot : ℕ) → block_insn_stepped state next spot (load kind slot)
      ≡ frame_went (shapes.Load (operand_of kind) slot) next spot
  load_went spot kinds.Object slot = object_loaded spot slot
  load_went spot kinds.Int slot = number_loaded spot slot
  load_went spot kinds.Bool slot = number_loaded spot slot
  load_went spot kinds.Byte slot = number_loaded spot slot
  load_went spot kinds.Short slot = number_loaded spot slot
  load_went spot kinds.Char slot = number_loaded spot slot

  store_went : (spot : Spot) (kind : Kind) (slot : ℕ) → block_insn_stepped state next spot (store kind slot)
      ≡ frame_went (shapes.Store (operand_of kind) slot) next spot
  store_went spot kinds.Object slot = object_stored spot slot
  store_went spot kinds.Int slot = number_stored spot slot
  store_went spot kinds.Bool slot = number_stored spot slot
  store_went spot kinds.Byte slot = number_stored spot slot
  store_went spot kinds.Short slot = number_stored spot slot
  store_went spot kinds.Char slot = number_stored spot slot

  module _ (items locals fields : List Value) (locked : Bool) where
    abbrev here : List Value → Spot
    here operands = spot_at size operands locals fields locked

    pub stores : (kind : Kind) (slot : ℕ) (v : Value) → fits (operand_of kind) v ≡ true → slot < length locals → length items ≤ size
        → Moves (store kind slot) (here (v ∷ items)) (spot_at size items (slice_set locals slot v) fields locked)
    stores kind slot v fit inside room =
        let within : nat_lt slot (length locals) ≡ true = grind (arith, nat_tests) in
        store_went (here (v ∷ items)) kind slot ∙ rw (fit, within, no_more size (length items) room) refl

    pub loads : (kind : Kind) (slot : ℕ) (v : Value) → fits (operand_of kind) v ≡ true → slice_get locals slot ≡ Some v
        → length items < size
        → Moves (load kind slot) (here items) (here (v ∷ items))
    loads kind slot v fit there room =
        load_went (here items) kind slot ∙ rw (there, fit, no_more size (length (v ∷ items)) (omega (arith, room))) refl

    pub loads_number : (slot : ℕ) (n : ℤ) → slice_get locals slot ≡ Some (values.Int n) → length items < size
        → Moves (local ILOAD_0 ILOAD slot) (here items) (here (values.Int n ∷ items))
    loads_number slot n there room = loads kinds.Int slot (values.Int n) refl there room

    -- ---- numbers

    pushed_now : (v : Value) → length items < size → pushes next (here items) v ≡ Goes next (here (v ∷ items))
    pushed_now v room = rw (no_more size (length (v ∷ items)) (omega (arith, room))) refl

    abbrev Pushes : ℤ → BlockInsn → Type 0
    Pushes n b = block_insn_stepped state next (here items) b ≡ pushes next (here items) (values.Int n)

    one_of : (n m : ℤ) (b : BlockInsn) → int_eq n m ≡ true → Pushes m b → Pushes n b
    one_of n m b e so =
        let same : m ≡ n = sym ((Decides-int_eq n m).0 e) in
        subst (λ (k : ℤ). Pushes k b) same so

    push_went : (n : ℤ) → Pushes n (push n)
    push_went n =
        chosen (Pushes n) (int_eq n (neg_ℤ (pos 1))) _ _ (λ e. one_of n (neg_ℤ (pos 1)) (Plain ICONST_M1) e refl) (λ e.
        chosen (Pushes n) (int_eq n (pos 0)) _ _ (λ e. one_of n (pos 0) (Plain ICONST_0) e refl) (λ e.
        chosen (Pushes n) (int_eq n (pos 1)) _ _ (λ e. one_of n (pos 1) (Plain ICONST_1) e refl) (λ e.
        chosen (Pushes n) (int_eq n (pos 2)) _ _ (λ e. one_of n (pos 2) (Plain ICONST_2) e refl) (λ e.
        chosen (Pushes n) (int_eq n (pos 3)) _ _ (λ e. one_of n (pos 3) (Plain ICONST_3) e refl) (λ e.
        chosen (Pushes n) (int_eq n (pos 4)) _ _ (λ e. one_of n (pos 4) (Plain ICONST_4) e refl) (λ e.
        chosen (Pushes n) (int_eq n (pos 5)) _ _ (λ e. one_of n (pos 5) (Plain ICONST_5) e refl) (λ e.
        chosen (Pushes n) (int_le (neg_ℤ (pos 128)) n && int_le n (pos 127)) _ _ (λ e. refl) (λ e.
        chosen (Pushes n) (int_le (neg_ℤ (pos 32768)) n && int_le n (pos 32767)) _ _ (λ e. refl) (λ e. refl)))))))))

    pub pushes_number : (n : ℤ) → length items < size → Moves (push n) (here items) (here (values.Int n ∷ items))
    pushes_number n room = push_went n ∙ pushed_now (values.Int n) room

    pub adds : (x y : ℤ) → length items < size
        → Moves (Plain IADD) (here (values.Int y ∷ values.Int x ∷ items)) (here (values.Int (int_wrapping_add w32 x y) ∷ items))
    adds x y room = rw (no_more size (length (values.Int x ∷ items)) (omega (arith, room))) refl

    -- ---- the fields of conspec/State

    pub reads : (bools : List Bool) (var : ℕ) (v : Value) → slice_get fields var ≡ Some v → length items < size
        → Moves (Want GETSTATIC (field bools var)) (here items) (here (v ∷ items))
    reads bools var v there room = rw there (pushed_now v room)

    pub writes : (bools : List Bool) (var : ℕ) (v : Value) → var < length fields → length items ≤ size
        → Moves (Want PUTSTATIC (field bools var)) (here (v ∷ items)) (spot_at size items locals (slice_set fields var v) locked)
    writes bools var v inside room = rw (slice_get-get_or fields var v inside, no_more size (length items) room) refl

    -- ---- jumps

    not_at_most : (x y : ℤ) → int_le y x ≡ not (int_lt x y)
    not_at_most x y = grind (arith, ints)

    not_below : (x y : ℤ) → int_lt y x ≡ not (int_le x y)
    not_below x y = grind (arith, ints)

    twice_not : (b : Bool) → b ≡ not (not b)
    twice_not true = refl
    twice_not false = refl

    -- It jumps where the relation does not hold.
    abbrev Compares : Rel → ℤ → ℤ → ℕ → Type 0
    Compares rel x y to =
        block_insn_stepped state next (here (values.Int y ∷ values.Int x ∷ items)) (Jump (negated rel) to)
        ≡ goes_with (if not (relates rel x y) then to else next) (here (values.Int y ∷ values.Int x ∷ items)) locals items

    jumps_by : (b c : Bool) (to : ℕ) (old : List Value) → b ≡ c → goes_with (if b then to else next) (here old) locals items
        ≡ goes_with (if c then to else next) (here old) locals items
    jumps_by b c to old e = ap (λ (t : Bool). goes_with (if t then to else next) (here old) locals items) e

    compares : (rel : Rel) (x y : ℤ) (to : ℕ) → Compares rel x y to
    compares relations.Eq x y to = refl
    compares relations.Ne x y to = jumps_by (int_eq x y) (not (not (int_eq x y))) to (values.Int y ∷ values.Int x ∷ items) (twice_not
        (int_eq x y))
    compares relations.Lt x y to = jumps_by (int_le y x) (not (int_lt x y)) to (values.Int y ∷ values.Int x ∷ items) (not_at_most x y)
    compares relations.Le x y to = jumps_by (int_lt y x) (not (int_le x y)) to (values.Int y ∷ values.Int x ∷ items) (not_below x y)
    compares relations.Gt x y to = jumps_by (int_le x y) (not (int_lt y x)) to (values.Int y ∷ values.Int x ∷ items) (not_at_most y x)
    compares relations.Ge x y to = jumps_by (int_lt x y) (not (int_le y x)) to (values.Int y ∷ values.Int x ∷ items) (not_below y x)

    pub passes : (rel : Rel) (x y : ℤ) (to : ℕ) → relates rel x y ≡ true → length items ≤ size
        → Moves (Jump (negated rel) to) (here (values.Int y ∷ values.Int x ∷ items)) (here items)
    passes rel x y to holds room = compares rel x y to ∙ rw (holds, no_more size (length items) room) refl

    pub fails : (rel : Rel) (x y : ℤ) (to : ℕ) → relates rel x y ≡ false → length items ≤ size
        → block_insn_stepped state next (here (values.Int y ∷ values.Int x ∷ items)) (Jump (negated rel) to) ≡ Goes to (here items)
    fails rel x y to not_so room = compares rel x y to ∙ rw (not_so, no_more size (length items) room) refl

    pub jumps : (to : ℕ) → length items ≤ size → block_insn_stepped state next (here items) (Jump GOTO to) ≡ Goes to (here items)
    jumps to room = rw (no_more size (length items) room) refl

    -- ---- what is thrown, and the way out

    pub throws : (v : Value) → is_null v ≡ false → block_insn_stepped state next (here (v ∷ items)) (Plain ATHROW) ≡ Throws v
    throws v there = rw there refl

    pub exit_status : length items < size → Moves (Byte (pos 77)) (here items) (here (values.Int (pos 77) ∷ items))
    exit_status room = pushed_now (values.Int (pos 77)) room

    pub stops : (n : ℤ) → block_insn_stepped state next (here (values.Int n ∷ items)) (Want INVOKESTATIC Exit) ≡ Stops n
    stops n = refl

    -- ---- the lock

    pub lock_pushed : length items < size → Moves (Want LDC_W StateClass) (here items) (here (values.Class state ∷ items))
    lock_pushed room = pushed_now (values.Class state) room

  pub enters : (items locals fields : List Value) → length items ≤ size
      → Moves (Plain MONITORENTER) (spot_at size (values.Class state ∷ items) locals fields false) (spot_at size items locals fields true)
  enters items locals fields room = rw (eq-eqb state state refl, no_more size (length items) room) refl

  pub leaves : (items locals fields : List Value) → length items ≤ size
      → Moves (Plain MONITOREXIT) (spot_at size (values.Class state ∷ items) locals fields true) (spot_at size items locals fields false)
  leaves items locals fields room = rw (eq-eqb state state refl, no_more size (length items) room) refl
