-- The shapes agree with the table of opcodes, and control goes to a successor.
use Rattle.std.proofs.Common.{◌≡◌, ℕ, ℤ, ◌+◌, Bool, true, false, cond, List, [], ◌∷◌, ◌++◌, length, refl, sym, ap, subst, ◌∙◌, arith, ◌⊎◌, inl, inr}
use Rattle.std.specs.Prelude.{not, Contains, pos, ◌+ℤ◌, ◌==◌, nat_lt}
use Rattle.std.specs.Ordering.{int_eq}
use Rattle.std.proofs.lemmas.Bool.{eqb-true, and_parts, true≢false}
use Rattle.std.proofs.lemmas.List.{nil_from_length}
use Rattle.std.proofs.lemmas.List.Elements.{Contains-append_left, Contains-append_right, Contains-append_cases}
use Rattle.insn_codec.specs.declared.insn.Insn.{Insn}
use Rattle.insn_codec.specs.declared.insn.Insn.TheVariants as insns
use Rattle.insn_codec.specs.declared.opcode.Operands.TheVariants as ops
use Rattle.insn_codec.specs.Opcodes.{opcode_at, operands_of, is_frame_only, goes_on}
use Rattle.insn_codec.specs.declared.shape.Relation.TheVariants as relations
use Rattle.insn_codec.specs.declared.shape.Shape.{Shape}
use Rattle.insn_codec.specs.declared.shape.Shape.TheVariants as shapes
use Rattle.insn_codec.specs.Control.{View, goes_to, in_range, by_key}
use Rattle.insn_codec.specs.Shapes.{shape_of, plain_shape, local_shape, branch_shape, test_shape, comparing_shape}
use Rattle.insn_codec.specs.Encoding.{opcode_of}
use Rattle.insn_codec.specs.Fits.{IsInsn}
use Rattle.insn_codec.specs.Table.{is_heap, ends, MarkedAlike, GoesOnAlike, NopAlone, GoesToSuccessor}
use Rattle.insn_codec.proofs.OpcodeTests.{Agreement, is_nothing, is_switch, jumps_of, jumps_nowhere, plain_agrees, plain_stays, pool_agrees, pool_is_heap, local_agrees, local_stays, branch_agrees}
use Rattle.insn_codec.specs.declared.opcodes.TheConstants.{
  IFEQ,
  IFNE,
  IFLT,
  IFGE,
  IFGT,
  IFLE,
  IF_ICMPEQ,
  IF_ICMPNE,
  IF_ICMPLT,
  IF_ICMPGE,
  IF_ICMPGT,
  IF_ICMPLE,
  IF_ACMPEQ,
  IF_ACMPNE,
  GOTO,
  IFNULL,
  IFNONNULL,
}

-- the table of an instruction's opcode and its shape
alike : (insn : Insn) → IsInsn insn → (is_frame_only (opcode_of insn) ≡ not (is_heap (shape_of insn))) × (goes_on (opcode_of insn) ≡ not (ends (shape_of insn)))
unfolding opcode_at
alike (insns.Plain op) is = let a = plain_agrees op is.0 is.1 in (a.marked, a.goes)
alike (insns.Byte n) is = (refl, refl)
alike (insns.Short n) is = (refl, refl)
alike (insns.Ldc index) is = (refl, refl)
alike (insns.Pool op index) is = let a = pool_agrees op is.0 is.1 in (a.marked, a.goes)
alike (insns.Iface index count) is = (refl, refl)
alike (insns.Local op slot wide) is = let a = local_agrees op slot is.0 is.1 in (a.marked, a.goes)
alike (insns.Inc slot by wide) is = (refl, refl)
alike (insns.Branch op to) is = let a = branch_agrees op to is.0 is.1 in (a.marked, a.goes)
alike (insns.GotoW to) is = (refl, refl)
alike (insns.NewArray kind) is = (refl, refl)
alike (insns.Table other low targets) is = (refl, refl)
alike (insns.Lookup other keys targets) is = (refl, refl)

pub marked_alike : MarkedAlike
marked_alike insn is = (alike insn is).0

pub goes_on_alike : GoesOnAlike
goes_on_alike insn is = (alike insn is).1

not_true : (b : Bool) → not b ≡ true → b ≡ false
not_true true h = absurd cc
not_true false h = refl

plain_zero : (op : ℕ) → op ≡ 0 → operands_of op ≡ ops.Plain
unfolding opcode_at
plain_zero op e = rw e refl

pub nop_alone : NopAlone
nop_alone (insns.Plain op) is e = ap insns.Plain ((plain_agrees op is.0 is.1).something (ap is_nothing e))
nop_alone (insns.Byte n) is e = absurd cc
nop_alone (insns.Short n) is e = absurd cc
nop_alone (insns.Ldc index) is e = absurd cc
nop_alone (insns.Pool op index) is e =
    let plain = plain_zero op ((pool_agrees op is.0 is.1).something (ap is_nothing e)) in
    let pool : operands_of op ≡ ops.Pool = is.1 in absurd cc
nop_alone (insns.Iface index count) is e = absurd cc
nop_alone (insns.Local op slot wide) is e =
    let plain = plain_zero op ((local_agrees op slot is.0 is.1).something (ap is_nothing e)) in
    let form : operands_of op ≡ ops.Local = is.1 in absurd cc
nop_alone (insns.Inc slot by wide) is e = absurd cc
nop_alone (insns.Branch op to) is e =
    let plain = plain_zero op ((branch_agrees op to is.0 is.1).something (ap is_nothing e)) in
    let form : operands_of op ≡ ops.Branch = is.1 in absurd cc
nop_alone (insns.GotoW to) is e = absurd cc
nop_alone (insns.NewArray kind) is e = absurd cc
nop_alone (insns.Table other low targets) is e = absurd cc
nop_alone (insns.Lookup other keys targets) is e = absurd cc

-- ---- where control goes

-- a jump of this shape is to the target, if it is one, and it is no switch
record Only (to : ℕ) (shape : Shape) : Type 0 where
  pub target : (jumps_of shape ≡ []) ⊎ (jumps_of shape ≡ to ∷ [])
  pub plain : is_switch shape ≡ false

either : (to : ℕ) (b : Bool) (x y : Shape) → Only to x → Only to y → Only to (cond b x y)
either to true x y p q = p
either to false x y p q = q

none : {to : ℕ} → Only to shapes.Nothing
none = record { target = inl refl; plain = refl }

jump : {to : ℕ} {shape : Shape} → jumps_of shape ≡ to ∷ [] → is_switch shape ≡ false → Only to shape
jump e f = record { target = inr e; plain = f }

tests_only : (op to : ℕ) → Only to (test_shape op to)
tests_only op to =
    (either to (op == IFEQ) (shapes.Test relations.Equal to) _ (jump refl refl)
    (either to (op == IFNE) (shapes.Test relations.NotEqual to) _ (jump refl refl)
    (either to (op == IFLT) (shapes.Test relations.Less to) _ (jump refl refl)
    (either to (op == IFGE) (shapes.Test relations.GreaterOrEqual to) _ (jump refl refl)
    (either to (op == IFGT) (shapes.Test relations.Greater to) _ (jump refl refl)
    (either to (op == IFLE) (shapes.Test relations.LessOrEqual to) _ (jump refl refl) none))))))

compares_only : (op to : ℕ) → Only to (comparing_shape op to)
compares_only op to =
    (either to (op == IF_ICMPEQ) (shapes.Compare relations.Equal to) _ (jump refl refl)
    (either to (op == IF_ICMPNE) (shapes.Compare relations.NotEqual to) _ (jump refl refl)
    (either to (op == IF_ICMPLT) (shapes.Compare relations.Less to) _ (jump refl refl)
    (either to (op == IF_ICMPGE) (shapes.Compare relations.GreaterOrEqual to) _ (jump refl refl)
    (either to (op == IF_ICMPGT) (shapes.Compare relations.Greater to) _ (jump refl refl)
    (either to (op == IF_ICMPLE) (shapes.Compare relations.LessOrEqual to) _ (jump refl refl)
    (either to (op == IF_ACMPEQ) (shapes.CompareReferences true to) _ (jump refl refl)
    (either to (op == IF_ACMPNE) (shapes.CompareReferences false to) _ (jump refl refl)
    (either to (op == GOTO) (shapes.Goto to) _ (jump refl refl)
    (either to (op == IFNULL) (shapes.TestNull true to) _ (jump refl refl)
    (either to (op == IFNONNULL) (shapes.TestNull false to) _ (jump refl refl) none)))))))))))

branches_only : (op to : ℕ) → Only to (branch_shape op to)
branches_only op to = either to (nat_lt op IF_ICMPEQ) (test_shape op to) (comparing_shape op to) (tests_only op to) (compares_only op to)

first_of : (x : ℕ) (xs : List ℕ) → Contains (x ∷ xs) x
first_of x xs = (0, omega arith, refl)

later_of : (x y : ℕ) (xs : List ℕ) → Contains xs x → Contains (y ∷ xs) x
later_of x y xs c = Contains-append_right (y ∷ []) xs x c

-- past an item that is not the first
past : (other to : ℕ) (targets : List ℕ) (x : ℕ) → Contains (other ∷ targets) x → Contains (other ∷ to ∷ targets) x
past other to targets x c = elim (Contains-append_cases (other ∷ []) targets x c) [
  | inl first ↦ Contains-append_left (other ∷ []) (to ∷ targets) x first
  | inr later ↦ later_of x other (to ∷ targets) (later_of x to targets later)
]

-- one more target, or what was there without it
one_or : (b : Bool) (other to x : ℕ) (targets : List ℕ) → Contains (other ∷ targets) x → Contains (other ∷ to ∷ targets) (cond b to x)
one_or true other to x targets c = later_of to other (to ∷ targets) (first_of to targets)
one_or false other to x targets c = past other to targets x c

stays_parts : (shape : Shape) → jumps_nowhere shape ≡ true → (jumps_of shape ≡ []) × (is_switch shape ≡ false)
stays_parts shape h =
    let b = and_parts (length (jumps_of shape) == 0) (not (is_switch shape)) h in
    (nil_from_length (jumps_of shape) (eqb-true (length (jumps_of shape)) 0 b.0), not_true (is_switch shape) b.1)

-- a shape that is no switch leads on, or to its target
abbrev Leads : Shape → ℕ → ℕ → Type 0
Leads shape next to = ((to ≡ next) × (ends shape ≡ false)) ⊎ Contains (jumps_of shape) to

if_taken : (shape : Shape) (b : Bool) (to next : ℕ) → ends shape ≡ false → jumps_of shape ≡ to ∷ [] → Leads shape next (cond b to next)
if_taken shape true to next stays jumps = inr (rw jumps (first_of to []))
if_taken shape false to next stays jumps = inl (refl, stays)

module _ {V : Type 0} (view : View V) where
  leads : (insn : Insn) (shape : Shape) (next : ℕ) (stack : List V) → is_switch shape ≡ false → is_heap shape ≡ false → Leads shape next (goes_to view insn shape next stack)
  leads insn shapes.Nothing next stack plain frame = inl (refl, refl)
  leads insn (shapes.Push n) next stack plain frame = inl (refl, refl)
  leads insn shapes.PushNull next stack plain frame = inl (refl, refl)
  leads insn (shapes.Load kind slot) next stack plain frame = inl (refl, refl)
  leads insn (shapes.Store kind slot) next stack plain frame = inl (refl, refl)
  leads insn (shapes.Move form) next stack plain frame = inl (refl, refl)
  leads insn (shapes.Two op) next stack plain frame = inl (refl, refl)
  leads insn (shapes.One op) next stack plain frame = inl (refl, refl)
  leads insn (shapes.Increment slot by) next stack plain frame = inl (refl, refl)
  leads insn (shapes.Test relation to) next stack plain frame = if_taken (shapes.Test relation to) _ to next refl refl
  leads insn (shapes.Compare relation to) next stack plain frame = if_taken (shapes.Compare relation to) _ to next refl refl
  leads insn (shapes.CompareReferences same to) next stack plain frame = if_taken (shapes.CompareReferences same to) _ to next refl refl
  leads insn (shapes.TestNull null to) next stack plain frame = if_taken (shapes.TestNull null to) _ to next refl refl
  leads insn (shapes.Goto to) next stack plain frame = inr (first_of to [])
  leads insn shapes.Switch next stack plain frame = absurd cc
  leads insn (shapes.Heap what) next stack plain frame = absurd cc

  in_range_is : (other : ℕ) (low : ℤ) (targets : List ℕ) (n : ℤ) → Contains (other ∷ targets) (in_range other low targets n)
  in_range_is other low [] n = first_of other []
  in_range_is other low (to ∷ targets) n = one_or (int_eq low n) other to (in_range other (low +ℤ pos 1) targets n) targets (in_range_is other (low +ℤ pos 1) targets n)

  by_key_is : (other : ℕ) (keys : List ℤ) (targets : List ℕ) (n : ℤ) → Contains (other ∷ targets) (by_key other keys targets n)
  by_key_is other [] targets n = first_of other targets
  by_key_is other (key ∷ keys) [] n = first_of other []
  by_key_is other (key ∷ keys) (to ∷ targets) n = one_or (int_eq key n) other to (by_key other keys targets n) targets (by_key_is other keys targets n)

  -- an opcode that agrees with its shape, and goes on to `at + 1` or to a target of the shape
  goes_on_or : (op at : ℕ) (shape : Shape) (jumps : List ℕ) (to : ℕ) → Agreement op shape → is_heap shape ≡ false → Leads shape (at + 1) to
      → (Contains (jumps_of shape) to → Contains jumps to) → Contains (cond (goes_on op) ((at + 1) ∷ []) [] ++ jumps) to
  goes_on_or op at shape jumps to agreement frame (inl on) there =
      let goes : goes_on op ≡ true = agreement.goes ∙ ap not on.1 in
      rw (goes, on.0) (first_of (at + 1) jumps)
  goes_on_or op at shape jumps to agreement frame (inr jump) there =
      Contains-append_right (cond (goes_on op) ((at + 1) ∷ []) []) jumps to (there jump)

  nowhere : (shape : Shape) (to : ℕ) (xs : List ℕ) → jumps_of shape ≡ [] → Contains (jumps_of shape) to → Contains xs to
  nowhere shape to xs e c = let n : length (jumps_of shape) ≡ 0 = ap length e in absurd (omega (arith, c.1, n))

  pub goes_to_successor : GoesToSuccessor view
  unfolding opcode_at
  goes_to_successor (insns.Plain op) at stack is frame =
      let stays = stays_parts (plain_shape op) (plain_stays op is.0 is.1) in
      goes_on_or op at (plain_shape op) [] _ (plain_agrees op is.0 is.1) frame (leads (insns.Plain op) (plain_shape op) (at + 1) stack stays.1 frame) (nowhere (plain_shape op) _ [] stays.0)
  goes_to_successor (insns.Byte n) at stack is frame = first_of (at + 1) []
  goes_to_successor (insns.Short n) at stack is frame = first_of (at + 1) []
  goes_to_successor (insns.Ldc index) at stack is frame = absurd cc
  goes_to_successor (insns.Pool op index) at stack is frame = absurd (true≢false (sym (pool_is_heap op is.0 is.1) ∙ frame))
  goes_to_successor (insns.Iface index count) at stack is frame = absurd cc
  goes_to_successor (insns.Local op slot wide) at stack is frame =
      let stays = stays_parts (local_shape op slot) (local_stays op slot is.0 is.1) in
      goes_on_or op at (local_shape op slot) [] _ (local_agrees op slot is.0 is.1) frame (leads (insns.Local op slot wide) (local_shape op slot) (at + 1) stack stays.1 frame) (nowhere (local_shape op slot) _ [] stays.0)
  goes_to_successor (insns.Inc slot by wide) at stack is frame = first_of (at + 1) []
  goes_to_successor (insns.Branch op to) at stack is frame =
      let only = branches_only op to in
      goes_on_or op at (branch_shape op to) (to ∷ []) _ (branch_agrees op to is.0 is.1) frame (leads (insns.Branch op to) (branch_shape op to) (at + 1) stack only.plain frame)
      (λ c. elim only.target [
        | inl e ↦ nowhere (branch_shape op to) _ (to ∷ []) e c
        | inr e ↦ subst (λ (xs : List ℕ). Contains xs (goes_to view (insns.Branch op to) (branch_shape op to) (at + 1) stack)) e c
      ])
  goes_to_successor (insns.GotoW to) at stack is frame = first_of to []
  goes_to_successor (insns.NewArray kind) at stack is frame = absurd cc
  goes_to_successor (insns.Table other low targets) at stack is frame = in_range_is other low targets _
  goes_to_successor (insns.Lookup other keys targets) at stack is frame = by_key_is other keys targets _
