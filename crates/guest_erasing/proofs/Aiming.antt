-- An instruction with its targets at their fronts: its shape has them there, and control goes to the front of where it went.
use Rattle.std.proofs.Common.{◌≡◌, ℕ, ℤ, ◌<◌, Bool, true, false, cond, List, [], ◌∷◌, map, refl, ap, ◌∙◌}
use Rattle.std.specs.Prelude.{◌==◌, ◌&&◌, ◌+ℤ◌, pos, nat_le, nat_lt, slice_get, slice_index}
use Rattle.std.specs.Bool.{beq}
use Rattle.std.specs.Ordering.{int_eq}
use Rattle.std.specs.List.{AllByRecursion}
use Rattle.std.specs.Option.{option_map_or}
use Rattle.insn_codec.specs.declared.insn.Insn.{Insn}
use Rattle.insn_codec.specs.declared.insn.Insn.TheVariants as insns
use Rattle.insn_codec.specs.declared.shape.Shape.{Shape}
use Rattle.insn_codec.specs.declared.shape.Shape.TheVariants as shapes
use Rattle.insn_codec.specs.declared.opcodes.TheConstants.{AALOAD, AASTORE, ACONST_NULL, ALOAD, ALOAD_0, ALOAD_3, ANEWARRAY, ARETURN, ARRAYLENGTH, ASTORE, ASTORE_0, ASTORE_3, ATHROW, BALOAD, BASTORE, CALOAD, CASTORE, CHECKCAST, DUP, DUP2, DUP2_X1, DUP2_X2, DUP_X1, DUP_X2, GETFIELD, GETSTATIC, GOTO, I2B, I2C, I2S, IADD, IALOAD, IAND, IASTORE, ICONST_5, ICONST_M1, IDIV, IFEQ, IFGE, IFGT, IFLE, IFLT, IFNE, IFNONNULL, IFNULL, IF_ACMPEQ, IF_ACMPNE, IF_ICMPEQ, IF_ICMPGE, IF_ICMPGT, IF_ICMPLE, IF_ICMPLT, IF_ICMPNE, ILOAD, ILOAD_0, ILOAD_3, IMUL, INEG, INSTANCEOF, INVOKESPECIAL, INVOKESTATIC, INVOKEVIRTUAL, IOR, IREM, IRETURN, ISHL, ISHR, ISTORE, ISTORE_0, ISTORE_3, ISUB, IUSHR, IXOR, LDC_W, MONITORENTER, MONITOREXIT, NEW, POP, POP2, PUTFIELD, PUTSTATIC, RETURN, SALOAD, SASTORE, SWAP}
use Rattle.insn_codec.specs.Control.{View, by_key, goes_to, in_range, jump_targets, of_top, of_two, relates}
use Rattle.insn_codec.specs.Effect.{Domain, effect}
use Rattle.insn_codec.specs.Shapes.{branch_shape, comparing_shape, leaving_shape, local_shape, moving_shape, number_shape, plain_shape, pool_shape, pushing_shape, shape_of, storing_shape, test_shape}
use Rattle.offset_patch.specs.Splicing.{aimed}
use Rattle.guest_model.specs.Stepping.{heap_in}

-- the shape with its target moved, if it has one
abbrev pub shape_with : (ℕ → ℕ) → Shape → Shape
shape_with f (shapes.Test relation to) = shapes.Test relation (f to)
shape_with f (shapes.Compare relation to) = shapes.Compare relation (f to)
shape_with f (shapes.CompareReferences same to) = shapes.CompareReferences same (f to)
shape_with f (shapes.TestNull null to) = shapes.TestNull null (f to)
shape_with f (shapes.Goto to) = shapes.Goto (f to)
shape_with f shapes.Switch = shapes.Switch
shape_with f shapes.Nothing = shapes.Nothing
shape_with f (shapes.Push n) = shapes.Push n
shape_with f shapes.PushNull = shapes.PushNull
shape_with f (shapes.Load kind slot) = shapes.Load kind slot
shape_with f (shapes.Store kind slot) = shapes.Store kind slot
shape_with f (shapes.Move form) = shapes.Move form
shape_with f (shapes.Two two) = shapes.Two two
shape_with f (shapes.One one) = shapes.One one
shape_with f (shapes.Increment slot by) = shapes.Increment slot by
shape_with f (shapes.Heap what) = shapes.Heap what

-- its target is one of so many; it is no switch
abbrev pub GoesWithin : ℕ → Shape → Type 0
GoesWithin n (shapes.Test relation to) = to < n
GoesWithin n (shapes.Compare relation to) = to < n
GoesWithin n (shapes.CompareReferences same to) = to < n
GoesWithin n (shapes.TestNull null to) = to < n
GoesWithin n (shapes.Goto to) = to < n
GoesWithin n shapes.Switch = ⊥
GoesWithin n shapes.Nothing = Unit {0}
GoesWithin n (shapes.Push m) = Unit {0}
GoesWithin n shapes.PushNull = Unit {0}
GoesWithin n (shapes.Load kind slot) = Unit {0}
GoesWithin n (shapes.Store kind slot) = Unit {0}
GoesWithin n (shapes.Move form) = Unit {0}
GoesWithin n (shapes.Two two) = Unit {0}
GoesWithin n (shapes.One one) = Unit {0}
GoesWithin n (shapes.Increment slot by) = Unit {0}
GoesWithin n (shapes.Heap what) = Unit {0}

pub record IsAimed (f : ℕ → ℕ) (n : ℕ) (shape other : Shape) : Type 0 where
  pub moved : other ≡ shape_with f shape
  pub within : GoesWithin n shape

module _ (f : ℕ → ℕ) (n : ℕ) where
  aimed_if : (b : Bool) (x y v w : Shape) → IsAimed f n x v → IsAimed f n y w → IsAimed f n (cond b x y) (cond b v w)
  aimed_if true x y v w p q = p
  aimed_if false x y v w p q = q

  pushing : (op : ℕ) → IsAimed f n (pushing_shape op) (pushing_shape op)
  pushing op =
      aimed_if (op == ACONST_NULL) _ _ _ _ (record { moved = refl; within = tt })
      (aimed_if (nat_le ICONST_M1 op && nat_le op ICONST_5) _ _ _ _ (record { moved = refl; within = tt })
      (aimed_if (nat_le ILOAD_0 op && nat_le op ILOAD_3) _ _ _ _ (record { moved = refl; within = tt })
      (aimed_if (nat_le ALOAD_0 op && nat_le op ALOAD_3) _ _ _ _ (record { moved = refl; within = tt })
      (record { moved = refl; within = tt }))))

  storing : (op : ℕ) → IsAimed f n (storing_shape op) (storing_shape op)
  storing op =
      aimed_if (op == IALOAD) _ _ _ _ (record { moved = refl; within = tt })
      (aimed_if (op == AALOAD) _ _ _ _ (record { moved = refl; within = tt })
      (aimed_if (op == BALOAD) _ _ _ _ (record { moved = refl; within = tt })
      (aimed_if (op == CALOAD) _ _ _ _ (record { moved = refl; within = tt })
      (aimed_if (op == SALOAD) _ _ _ _ (record { moved = refl; within = tt })
      (aimed_if (nat_le ISTORE_0 op && nat_le op ISTORE_3) _ _ _ _ (record { moved = refl; within = tt })
      (aimed_if (nat_le ASTORE_0 op && nat_le op ASTORE_3) _ _ _ _ (record { moved = refl; within = tt })
      (aimed_if (op == IASTORE) _ _ _ _ (record { moved = refl; within = tt })
      (aimed_if (op == AASTORE) _ _ _ _ (record { moved = refl; within = tt })
      (aimed_if (op == BASTORE) _ _ _ _ (record { moved = refl; within = tt })
      (aimed_if (op == CASTORE) _ _ _ _ (record { moved = refl; within = tt })
      (aimed_if (op == SASTORE) _ _ _ _ (record { moved = refl; within = tt })
      (record { moved = refl; within = tt }))))))))))))

  moving : (op : ℕ) → IsAimed f n (moving_shape op) (moving_shape op)
  moving op =
      aimed_if (op == POP) _ _ _ _ (record { moved = refl; within = tt })
      (aimed_if (op == POP2) _ _ _ _ (record { moved = refl; within = tt })
      (aimed_if (op == DUP) _ _ _ _ (record { moved = refl; within = tt })
      (aimed_if (op == DUP_X1) _ _ _ _ (record { moved = refl; within = tt })
      (aimed_if (op == DUP_X2) _ _ _ _ (record { moved = refl; within = tt })
      (aimed_if (op == DUP2) _ _ _ _ (record { moved = refl; within = tt })
      (aimed_if (op == DUP2_X1) _ _ _ _ (record { moved = refl; within = tt })
      (aimed_if (op == DUP2_X2) _ _ _ _ (record { moved = refl; within = tt })
      (aimed_if (op == SWAP) _ _ _ _ (record { moved = refl; within = tt })
      (record { moved = refl; within = tt })))))))))

  numbers : (op : ℕ) → IsAimed f n (number_shape op) (number_shape op)
  numbers op =
      aimed_if (op == IADD) _ _ _ _ (record { moved = refl; within = tt })
      (aimed_if (op == ISUB) _ _ _ _ (record { moved = refl; within = tt })
      (aimed_if (op == IMUL) _ _ _ _ (record { moved = refl; within = tt })
      (aimed_if (op == IDIV) _ _ _ _ (record { moved = refl; within = tt })
      (aimed_if (op == IREM) _ _ _ _ (record { moved = refl; within = tt })
      (aimed_if (op == INEG) _ _ _ _ (record { moved = refl; within = tt })
      (aimed_if (op == ISHL) _ _ _ _ (record { moved = refl; within = tt })
      (aimed_if (op == ISHR) _ _ _ _ (record { moved = refl; within = tt })
      (aimed_if (op == IUSHR) _ _ _ _ (record { moved = refl; within = tt })
      (aimed_if (op == IAND) _ _ _ _ (record { moved = refl; within = tt })
      (aimed_if (op == IOR) _ _ _ _ (record { moved = refl; within = tt })
      (aimed_if (op == IXOR) _ _ _ _ (record { moved = refl; within = tt })
      (aimed_if (op == I2B) _ _ _ _ (record { moved = refl; within = tt })
      (aimed_if (op == I2C) _ _ _ _ (record { moved = refl; within = tt })
      (aimed_if (op == I2S) _ _ _ _ (record { moved = refl; within = tt })
      (record { moved = refl; within = tt })))))))))))))))

  leaving : (op : ℕ) → IsAimed f n (leaving_shape op) (leaving_shape op)
  leaving op =
      aimed_if (op == IRETURN) _ _ _ _ (record { moved = refl; within = tt })
      (aimed_if (op == ARETURN) _ _ _ _ (record { moved = refl; within = tt })
      (aimed_if (op == RETURN) _ _ _ _ (record { moved = refl; within = tt })
      (aimed_if (op == ARRAYLENGTH) _ _ _ _ (record { moved = refl; within = tt })
      (aimed_if (op == ATHROW) _ _ _ _ (record { moved = refl; within = tt })
      (aimed_if (op == MONITORENTER) _ _ _ _ (record { moved = refl; within = tt })
      (aimed_if (op == MONITOREXIT) _ _ _ _ (record { moved = refl; within = tt })
      (record { moved = refl; within = tt })))))))

  pools : (op : ℕ) → IsAimed f n (pool_shape op) (pool_shape op)
  pools op =
      aimed_if (op == LDC_W) _ _ _ _ (record { moved = refl; within = tt })
      (aimed_if (op == GETSTATIC) _ _ _ _ (record { moved = refl; within = tt })
      (aimed_if (op == PUTSTATIC) _ _ _ _ (record { moved = refl; within = tt })
      (aimed_if (op == GETFIELD) _ _ _ _ (record { moved = refl; within = tt })
      (aimed_if (op == PUTFIELD) _ _ _ _ (record { moved = refl; within = tt })
      (aimed_if (op == INVOKEVIRTUAL) _ _ _ _ (record { moved = refl; within = tt })
      (aimed_if (op == INVOKESPECIAL) _ _ _ _ (record { moved = refl; within = tt })
      (aimed_if (op == INVOKESTATIC) _ _ _ _ (record { moved = refl; within = tt })
      (aimed_if (op == NEW) _ _ _ _ (record { moved = refl; within = tt })
      (aimed_if (op == ANEWARRAY) _ _ _ _ (record { moved = refl; within = tt })
      (aimed_if (op == CHECKCAST) _ _ _ _ (record { moved = refl; within = tt })
      (aimed_if (op == INSTANCEOF) _ _ _ _ (record { moved = refl; within = tt })
      (record { moved = refl; within = tt }))))))))))))

  locals : (op slot : ℕ) → IsAimed f n (local_shape op slot) (local_shape op slot)
  locals op slot =
      aimed_if (op == ILOAD) _ _ _ _ (record { moved = refl; within = tt })
      (aimed_if (op == ALOAD) _ _ _ _ (record { moved = refl; within = tt })
      (aimed_if (op == ISTORE) _ _ _ _ (record { moved = refl; within = tt })
      (aimed_if (op == ASTORE) _ _ _ _ (record { moved = refl; within = tt })
      (record { moved = refl; within = tt }))))

  tests : (op to : ℕ) → to < n → IsAimed f n (test_shape op to) (test_shape op (f to))
  tests op to h =
      aimed_if (op == IFEQ) _ _ _ _ (record { moved = refl; within = h })
      (aimed_if (op == IFNE) _ _ _ _ (record { moved = refl; within = h })
      (aimed_if (op == IFLT) _ _ _ _ (record { moved = refl; within = h })
      (aimed_if (op == IFGE) _ _ _ _ (record { moved = refl; within = h })
      (aimed_if (op == IFGT) _ _ _ _ (record { moved = refl; within = h })
      (aimed_if (op == IFLE) _ _ _ _ (record { moved = refl; within = h })
      (record { moved = refl; within = tt }))))))

  compares : (op to : ℕ) → to < n → IsAimed f n (comparing_shape op to) (comparing_shape op (f to))
  compares op to h =
      aimed_if (op == IF_ICMPEQ) _ _ _ _ (record { moved = refl; within = h })
      (aimed_if (op == IF_ICMPNE) _ _ _ _ (record { moved = refl; within = h })
      (aimed_if (op == IF_ICMPLT) _ _ _ _ (record { moved = refl; within = h })
      (aimed_if (op == IF_ICMPGE) _ _ _ _ (record { moved = refl; within = h })
      (aimed_if (op == IF_ICMPGT) _ _ _ _ (record { moved = refl; within = h })
      (aimed_if (op == IF_ICMPLE) _ _ _ _ (record { moved = refl; within = h })
      (aimed_if (op == IF_ACMPEQ) _ _ _ _ (record { moved = refl; within = h })
      (aimed_if (op == IF_ACMPNE) _ _ _ _ (record { moved = refl; within = h })
      (aimed_if (op == GOTO) _ _ _ _ (record { moved = refl; within = h })
      (aimed_if (op == IFNULL) _ _ _ _ (record { moved = refl; within = h })
      (aimed_if (op == IFNONNULL) _ _ _ _ (record { moved = refl; within = h })
      (record { moved = refl; within = tt })))))))))))

  pub plains : (op : ℕ) → IsAimed f n (plain_shape op) (plain_shape op)
  plains op =
      aimed_if (nat_lt op IALOAD) _ _ _ _ (pushing op)
      (aimed_if (nat_lt op POP) _ _ _ _ (storing op) (aimed_if (nat_lt op IADD) _ _ _ _ (moving op)
      (aimed_if (nat_lt op IFEQ) _ _ _ _ (numbers op) (leaving op))))

  pub branches : (op to : ℕ) → to < n → IsAimed f n (branch_shape op to) (branch_shape op (f to))
  branches op to h = aimed_if (nat_lt op IF_ICMPEQ) _ _ _ _ (tests op to h) (compares op to h)

-- ---- what it does

pub same_effect : {V : Type 0} (d : Domain V) (f : ℕ → ℕ) (shape : Shape) (locals stack : List V)
    → effect d (shape_with f shape) locals stack ≡ effect d shape locals stack
same_effect d f (shapes.Test relation to) locals stack = refl
same_effect d f (shapes.Compare relation to) locals stack = refl
same_effect d f (shapes.CompareReferences same to) locals stack = refl
same_effect d f (shapes.TestNull null to) locals stack = refl
same_effect d f (shapes.Goto to) locals stack = refl
same_effect d f shapes.Switch locals stack = refl
same_effect d f shapes.Nothing locals stack = refl
same_effect d f (shapes.Push n) locals stack = refl
same_effect d f shapes.PushNull locals stack = refl
same_effect d f (shapes.Load kind slot) locals stack = refl
same_effect d f (shapes.Store kind slot) locals stack = refl
same_effect d f (shapes.Move form) locals stack = refl
same_effect d f (shapes.Two two) locals stack = refl
same_effect d f (shapes.One one) locals stack = refl
same_effect d f (shapes.Increment slot by) locals stack = refl
same_effect d f (shapes.Heap what) locals stack = refl

same_heap : (f : ℕ → ℕ) (shape : Shape) → heap_in (shape_with f shape) ≡ heap_in shape
same_heap f (shapes.Test relation to) = refl
same_heap f (shapes.Compare relation to) = refl
same_heap f (shapes.CompareReferences same to) = refl
same_heap f (shapes.TestNull null to) = refl
same_heap f (shapes.Goto to) = refl
same_heap f shapes.Switch = refl
same_heap f shapes.Nothing = refl
same_heap f (shapes.Push n) = refl
same_heap f shapes.PushNull = refl
same_heap f (shapes.Load kind slot) = refl
same_heap f (shapes.Store kind slot) = refl
same_heap f (shapes.Move form) = refl
same_heap f (shapes.Two two) = refl
same_heap f (shapes.One one) = refl
same_heap f (shapes.Increment slot by) = refl
same_heap f (shapes.Heap what) = refl

-- ---- where control goes

module _ (f g : ℕ → ℕ) (n : ℕ) (same : (to : ℕ) → to < n → f to ≡ g to) where
  either_way : (b : Bool) (to next : ℕ) → to < n → cond b (f to) (g next) ≡ g (cond b to next)
  either_way true to next h = same to h
  either_way false to next h = refl

  pub goes_aimed : {V : Type 0} (view : View V) (insn other : Insn) (shape : Shape) (next : ℕ) (stack : List V) → GoesWithin n shape
      → goes_to view other (shape_with f shape) (g next) stack ≡ g (goes_to view insn shape next stack)
  goes_aimed view insn other (shapes.Test relation to) next stack h =
      either_way (of_top (λ x. relates relation (view.number x) (pos 0)) stack) to next h
  goes_aimed view insn other (shapes.Compare relation to) next stack h =
      either_way (of_two (λ x y. relates relation (view.number x) (view.number y)) stack) to next h
  goes_aimed view insn other (shapes.CompareReferences alike to) next stack h =
      either_way (of_two (λ x y. beq (view.are_one x y) alike) stack) to next h
  goes_aimed view insn other (shapes.TestNull null to) next stack h = either_way (of_top (λ x. beq (view.is_null x) null) stack) to next h
  goes_aimed view insn other (shapes.Goto to) next stack h = same to h
  goes_aimed view insn other shapes.Switch next stack h = absurd h
  goes_aimed view insn other shapes.Nothing next stack h = refl
  goes_aimed view insn other (shapes.Push m) next stack h = refl
  goes_aimed view insn other shapes.PushNull next stack h = refl
  goes_aimed view insn other (shapes.Load kind slot) next stack h = refl
  goes_aimed view insn other (shapes.Store kind slot) next stack h = refl
  goes_aimed view insn other (shapes.Move form) next stack h = refl
  goes_aimed view insn other (shapes.Two two) next stack h = refl
  goes_aimed view insn other (shapes.One one) next stack h = refl
  goes_aimed view insn other (shapes.Increment slot by) next stack h = refl
  goes_aimed view insn other (shapes.Heap what) next stack h = refl

  range_aimed : (other : ℕ) (low : ℤ) (targets : List ℕ) (k : ℤ) → other < n → AllByRecursion (λ to. to < n) targets
      → in_range (f other) low (map f targets) k ≡ g (in_range other low targets k)
  range_aimed other low [] k h all = same other h
  range_aimed other low (to ∷ targets) k h all = by (int_eq low k) (range_aimed other (low +ℤ pos 1) targets k h all.1) where
    by : (b : Bool) → in_range (f other) (low +ℤ pos 1) (map f targets) k ≡ g (in_range other (low +ℤ pos 1) targets k)
        → cond b (f to) (in_range (f other) (low +ℤ pos 1) (map f targets) k) ≡ g (cond b to (in_range other (low +ℤ pos 1) targets k))
    by true others = same to all.0
    by false others = others

  key_aimed : (other : ℕ) (keys : List ℤ) (targets : List ℕ) (k : ℤ) → other < n → AllByRecursion (λ to. to < n) targets
      → by_key (f other) keys (map f targets) k ≡ g (by_key other keys targets k)
  key_aimed other [] targets k h all = same other h
  key_aimed other (key ∷ keys) [] k h all = same other h
  key_aimed other (key ∷ keys) (to ∷ targets) k h all = by (int_eq key k) (key_aimed other keys targets k h all.1) where
    by : (b : Bool) → by_key (f other) keys (map f targets) k ≡ g (by_key other keys targets k)
        → cond b (f to) (by_key (f other) keys (map f targets) k) ≡ g (cond b to (by_key other keys targets k))
    by true others = same to all.0
    by false others = others

-- ---- an instruction

module _ (fronts : List ℕ) where
  abbrev F : ℕ → ℕ
  F to = slice_index fronts to

  abbrev Within : ℕ → Insn → Type 0
  Within n insn = AllByRecursion (λ to. to < n) (jump_targets insn)

  -- its shape is the old one with its target at its front
  pub shape_aimed : (n : ℕ) (insn : Insn) → Within n insn → shape_of (aimed fronts insn) ≡ shape_with F (shape_of insn)
  shape_aimed n (insns.Plain op) h = (plains F n op).moved
  shape_aimed n (insns.Byte k) h = refl
  shape_aimed n (insns.Short k) h = refl
  shape_aimed n (insns.Ldc index) h = refl
  shape_aimed n (insns.Pool op index) h = (pools F n op).moved
  shape_aimed n (insns.Iface index count) h = refl
  shape_aimed n (insns.Local op slot wide) h = (locals F n op slot).moved
  shape_aimed n (insns.Inc slot by wide) h = refl
  shape_aimed n (insns.Branch op to) h = (branches F n op to h.0).moved
  shape_aimed n (insns.GotoW to) h = refl
  shape_aimed n (insns.NewArray kind) h = refl
  shape_aimed n (insns.Table other low targets) h = refl
  shape_aimed n (insns.Lookup other keys targets) h = refl

  pub heap_aimed : (n : ℕ) (insn : Insn) → Within n insn → heap_in (shape_of (aimed fronts insn)) ≡ heap_in (shape_of insn)
  heap_aimed n insn h = ap heap_in (shape_aimed n insn h) ∙ same_heap F (shape_of insn)

  pub effect_aimed : {V : Type 0} (d : Domain V) (n : ℕ) (insn : Insn) (locals stack : List V) → Within n insn
      → effect d (shape_of (aimed fronts insn)) locals stack ≡ effect d (shape_of insn) locals stack
  effect_aimed d n insn locals stack h =
      ap (λ (s : Shape). effect d s locals stack) (shape_aimed n insn h) ∙ same_effect d F (shape_of insn) locals stack

  module _ (g : ℕ → ℕ) (n : ℕ) (same : (to : ℕ) → to < n → F to ≡ g to) where
    by_shape : {V : Type 0} (view : View V) (insn : Insn) (shape other : Shape) (next : ℕ) (stack : List V) → IsAimed F n shape other
        → goes_to view (aimed fronts insn) other (g next) stack ≡ g (goes_to view insn shape next stack)
    by_shape view insn shape other next stack is =
        ap (λ (s : Shape). goes_to view (aimed fronts insn) s (g next) stack) is.moved
        ∙ goes_aimed F g n same view insn (aimed fronts insn) shape next stack is.within

    pub aimed_goes : {V : Type 0} (view : View V) (insn : Insn) (next : ℕ) (stack : List V) → Within n insn
        → goes_to view (aimed fronts insn) (shape_of (aimed fronts insn)) (g next) stack ≡ g (goes_to view insn (shape_of insn) next stack)
    aimed_goes view (insns.Plain op) next stack h = by_shape view (insns.Plain op) _ _ next stack (plains F n op)
    aimed_goes view (insns.Byte k) next stack h = refl
    aimed_goes view (insns.Short k) next stack h = refl
    aimed_goes view (insns.Ldc index) next stack h = refl
    aimed_goes view (insns.Pool op index) next stack h = by_shape view (insns.Pool op index) _ _ next stack (pools F n op)
    aimed_goes view (insns.Iface index count) next stack h = refl
    aimed_goes view (insns.Local op slot wide) next stack h = by_shape view (insns.Local op slot wide) _ _ next stack (locals F n op slot)
    aimed_goes view (insns.Inc slot by wide) next stack h = refl
    aimed_goes view (insns.Branch op to) next stack h = by_shape view (insns.Branch op to) _ _ next stack (branches F n op to h.0)
    aimed_goes view (insns.GotoW to) next stack h = same to h.0
    aimed_goes view (insns.NewArray kind) next stack h = refl
    aimed_goes view (insns.Table other low targets) next stack h =
        range_aimed F g n same other low targets (option_map_or view.number (slice_get stack 0) (pos 0)) h.0 h.1
    aimed_goes view (insns.Lookup other keys targets) next stack h =
        key_aimed F g n same other keys targets (option_map_or view.number (slice_get stack 0) (pos 0)) h.0 h.1
