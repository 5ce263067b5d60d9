-- Where control leaves a block, the client's next instruction takes what is left.
use Rattle.std.proofs.Common.{◌≡◌, ℕ, zero, suc, ◌+◌, ◌-◌, Bool, true, false, cond, List, [], ◌∷◌, ◌++◌, length, replicate, refl, sym, ap, ◌∙◌, arith}
use Rattle.std.specs.Prelude.{◌==◌, not, nat_lt}
use Rattle.std.proofs.lemmas.Bool.{and_from, and_parts}
use Rattle.cert_format.specs.declared.typing.FrameType.{FrameType}
use Rattle.cert_format.specs.declared.typing.VType.{VType}
use Rattle.cert_format.specs.declared.typing.VType.TheVariants as types
use Rattle.insn_codec.specs.declared.opcodes.TheConstants.{GOTO, IFEQ, IFGE, IFGT, IFLE, IFLT, IFNE, IFNONNULL, IFNULL, IF_ACMPEQ, IF_ACMPNE, IF_ICMPEQ, IF_ICMPGE, IF_ICMPGT, IF_ICMPLE, IF_ICMPLT, IF_ICMPNE}
use Rattle.insn_codec.specs.declared.insn.Insn.{Insn}
use Rattle.insn_codec.specs.declared.insn.Insn.TheVariants as insns
use Rattle.insn_codec.specs.declared.shape.Heap.TheVariants as heap
use Rattle.insn_codec.specs.declared.shape.How.{How}
use Rattle.insn_codec.specs.declared.shape.Shape.{Shape}
use Rattle.insn_codec.specs.declared.shape.Shape.TheVariants as shapes
use Rattle.insn_codec.specs.Control.{jump_targets, successors}
use Rattle.insn_codec.specs.Fits.{IsInsn}
use Rattle.insn_codec.specs.Opcodes.{goes_on}
use Rattle.insn_codec.specs.Shapes.{branch_shape, comparing_shape, shape_of, test_shape}
use Rattle.insn_codec.specs.Encoding.{opcode_of}
use Rattle.insn_codec.specs.Table.{ends, is_heap}
use Rattle.insn_codec.proofs.Table.{goes_on_alike}
use Rattle.bytecode_model.specs.declared.program.Program.{Program}
use Rattle.bytecode_model.specs.Assigning.{assignable}
use Rattle.bytecode_model.specs.Makes.{local_after, stack_after, type_at}
use Rattle.bytecode_model.specs.Order.{IsInOrder}
use Rattle.bytecode_model.specs.InsnPlace.{InsnPlace}
use Rattle.bytecode_model.specs.Rules.{goes_well, locals_fit, stack_fits, taken}
use Rattle.bytecode_model.specs.Wants.{takes}
use Rattle.block_template.specs.Frames.{frame, padded}
use Rattle.type_lattice.proofs.Orders.{type_over}

-- ---- control goes on from a call alone

abbrev IsFrameOnly : Shape → Type 0
IsFrameOnly s = is_heap s ≡ false

either : (b : Bool) (x y : Shape) → IsFrameOnly x → IsFrameOnly y → IsFrameOnly (cond b x y)
either true x y p q = p
either false x y p q = q

tests_alone : (op to : ℕ) → IsFrameOnly (test_shape op to)
tests_alone op to =
    either (op == IFEQ) _ _ refl (either (op == IFNE) _ _ refl (either (op == IFLT) _ _ refl (either (op == IFGE) _ _ refl
    (either (op == IFGT) _ _ refl (either (op == IFLE) _ _ refl refl)))))

compares_alone : (op to : ℕ) → IsFrameOnly (comparing_shape op to)
compares_alone op to =
    either (op == IF_ICMPEQ) _ _ refl (either (op == IF_ICMPNE) _ _ refl (either (op == IF_ICMPLT) _ _ refl (either (op == IF_ICMPGE) _ _ refl
    (either (op == IF_ICMPGT) _ _ refl (either (op == IF_ICMPLE) _ _ refl (either (op == IF_ACMPEQ) _ _ refl (either (op == IF_ACMPNE) _ _ refl
    (either (op == GOTO) _ _ refl (either (op == IFNULL) _ _ refl (either (op == IFNONNULL) _ _ refl refl))))))))))

branches_alone : (op to : ℕ) → IsFrameOnly (branch_shape op to)
branches_alone op to = either (nat_lt op 159) _ _ (tests_alone op to) (compares_alone op to)

-- A call jumps nowhere.
no_jumps : (insn : Insn) (how : How) → shape_of insn ≡ shapes.Heap (heap.Call how) → jump_targets insn ≡ []
no_jumps (insns.Branch op to) how e =
    let no : true ≡ false = sym (ap is_heap e) ∙ branches_alone op to in
    absurd cc
no_jumps (insns.GotoW to) how e = absurd cc
no_jumps (insns.Table other low targets) how e = absurd cc
no_jumps (insns.Lookup other keys targets) how e = absurd cc
no_jumps (insns.Plain op) how e = refl
no_jumps (insns.Byte n) how e = refl
no_jumps (insns.Short n) how e = refl
no_jumps (insns.Ldc index) how e = refl
no_jumps (insns.Pool op index) how e = refl
no_jumps (insns.Iface index count) how e = refl
no_jumps (insns.Local op slot wide) how e = refl
no_jumps (insns.Inc slot by wide) how e = refl
no_jumps (insns.NewArray kind) how e = refl

pub goes_next : (insn other : Insn) (how : How) (at : ℕ) → IsInsn insn → shape_of insn ≡ shapes.Heap (heap.Call how)
    → opcode_of other ≡ opcode_of insn → shape_of other ≡ shapes.Heap (heap.Call how) → successors at other ≡ (at + 1) ∷ []
goes_next insn other how at is calls same also =
    let on : goes_on (opcode_of insn) ≡ true = goes_on_alike insn is ∙ ap (λ (s : Shape). not (ends s)) calls in
    ap (λ (ts : List ℕ). cond (goes_on (opcode_of other)) ((at + 1) ∷ []) [] ++ ts) (no_jumps other how also)
    ∙ ap (λ (op : ℕ). cond (goes_on op) ((at + 1) ∷ []) [] ++ []) same
    ∙ ap (λ (b : Bool). cond b ((at + 1) ∷ []) [] ++ []) on

-- ---- what stands in for what

-- An absent local takes anything, and so does one that is told to be unknown.
each_of : (program : Program) (g : ℕ → VType) (k : ℕ) (xs : List VType) → locals_fit program g k xs ≡ true → (j : ℕ)
    → assignable program (g (k + j)) (type_at xs j) ≡ true
each_of program g k [] e j = refl
each_of program g k (x ∷ xs) e zero =
    let here : k + 0 ≡ k = omega arith in
    let parts = and_parts (assignable program (g k) x) (locals_fit program g (k + 1) xs) e in
    ap (λ (n : ℕ). assignable program (g n) x) here ∙ parts.0
each_of program g k (x ∷ xs) e (suc j) =
    let next : k + suc j ≡ (k + 1) + j = omega arith in
    let parts = and_parts (assignable program (g k) x) (locals_fit program g (k + 1) xs) e in
    ap (λ (n : ℕ). assignable program (g n) (type_at xs j)) next ∙ each_of program g (k + 1) xs parts.1 j

from_each : (program : Program) (g : ℕ → VType) (k : ℕ) (ys : List VType)
    → ((j : ℕ) → assignable program (g (k + j)) (type_at ys j) ≡ true) → locals_fit program g k ys ≡ true
from_each program g k [] each = refl
from_each program g k (y ∷ ys) each =
    let here : k ≡ k + 0 = omega arith in
    and_from (assignable program (g k) y) (locals_fit program g (k + 1) ys)
    (ap (λ (n : ℕ). assignable program (g n) y) here ∙ each 0)
    (from_each program g (k + 1) ys (λ j. ap (λ (n : ℕ). assignable program (g n) (type_at ys j)) (next k j) ∙ each (suc j)))
  where
    next : (k j : ℕ) → (k + 1) + j ≡ k + suc j
    next k j = omega arith

-- What takes these locals takes others of which each may stand for one of them.
pub locals_through : (program : Program) (f g : ℕ → VType) (to : List VType)
    → ((j : ℕ) (t : VType) → assignable program (f j) t ≡ true → assignable program (g j) t ≡ true)
    → locals_fit program f 0 to ≡ true → locals_fit program g 0 to ≡ true
locals_through program f g to through e =
    from_each program g 0 to
    (λ j. through (0 + j) (type_at to j) (each_of program f 0 to e j))

module _ (program : Program) (order : IsInOrder program) where
  over : (t u v : VType) → assignable program t u ≡ true → assignable program u v ≡ true → assignable program t v ≡ true
  over t u v e f = type_over program order t u v e f

  pub stacks_over : (ss ts us : List VType) → stack_fits program ss ts ≡ true → stack_fits program ts us ≡ true → stack_fits program ss us ≡ true
  stacks_over [] [] us e f = f
  stacks_over [] (t ∷ ts) us e f = absurd cc
  stacks_over (s ∷ ss) [] us e f = absurd cc
  stacks_over (s ∷ ss) (t ∷ ts) [] e f = absurd cc
  stacks_over (s ∷ ss) (t ∷ ts) (u ∷ us) e f =
      let first = and_parts (assignable program s t) (stack_fits program ss ts) e in
      let second = and_parts (assignable program t u) (stack_fits program ts us) f in
      and_from (assignable program s u) (stack_fits program ss us) (over s t u first.0 second.0) (stacks_over ss ts us first.1 second.1)

  pub locals_over : (g : ℕ → VType) (ts us : List VType) → locals_fit program g 0 ts ≡ true → locals_fit program (type_at ts) 0 us ≡ true
      → locals_fit program g 0 us ≡ true
  locals_over g ts us e f =
      from_each program g 0 us
      (λ j. over (g (0 + j)) (type_at ts j) (type_at us j) (each_of program g 0 ts e j)
      (ap (λ (n : ℕ). assignable program (type_at ts n) (type_at us j)) (nothing j) ∙ each_of program (type_at ts) 0 us f j))
    where
      nothing : (j : ℕ) → j ≡ 0 + j
      nothing j = omega arith

-- ---- the way out of a block

pub type_padded : (base : ℕ) (locals : List VType) (j : ℕ) → type_at (padded base locals) j ≡ type_at locals j
type_padded base locals j = by locals j (base - length locals)
  where
    blank : (n j : ℕ) → type_at (replicate n types.Top) j ≡ types.Top
    blank zero j = refl
    blank (suc n) zero = refl
    blank (suc n) (suc j) = blank n j

    by : (xs : List VType) (j n : ℕ) → type_at (xs ++ replicate n types.Top) j ≡ type_at xs j
    by [] j n = blank n j
    by (x ∷ xs) zero n = refl
    by (x ∷ xs) (suc j) n = by xs j n

module _ (place : InsnPlace) (order : IsInOrder place.program) (base : ℕ) (following to : FrameType)
    (stack : stack_fits place.program following.stack to.stack ≡ true) (locals : locals_fit place.program (type_at following.locals) 0 to.locals ≡ true) where
  abbrev left : FrameType
  left = frame (padded base following.locals) following.stack

  padded_fits : locals_fit place.program (type_at (padded base following.locals)) 0 to.locals ≡ true
  padded_fits =
      locals_through place.program (type_at following.locals) (type_at (padded base following.locals)) to.locals
      (λ j t e. ap (λ (u : VType). assignable place.program u t) (type_padded base following.locals j) ∙ e) locals

  -- What goes to where the block is left goes to what takes what the call leaves.
  pub goes_out : (types : FrameType) → goes_well place types left ≡ true → goes_well place types to ≡ true
  goes_out types e =
      let after : List VType = stack_after place types.locals (length (takes place)) types.stack in
      let then : ℕ → VType = local_after place types.locals (taken place types) in
      let parts = and_parts (stack_fits place.program after following.stack) (locals_fit place.program then 0 (padded base following.locals)) e in
      and_from (stack_fits place.program after to.stack) (locals_fit place.program then 0 to.locals)
      (stacks_over place.program order after following.stack to.stack parts.0 stack)
      (locals_over place.program order then (padded base following.locals) to.locals parts.1 padded_fits)
