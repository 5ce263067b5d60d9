-- An instruction whose targets are at their fronts: what of it stays.
use Rattle.std.proofs.Common.{◌≡◌, ℕ, ◌+◌, ◌<◌, Bool, true, false, cond, List, [], ◌∷◌, ◌++◌, map, refl, sym, ap, ◌∙◌}
use Rattle.std.specs.Prelude.{◌==◌, nat_lt, slice_index}
use Rattle.std.proofs.lemmas.List.{map-append}
use Rattle.insn_codec.specs.declared.opcodes.TheConstants.{GOTO, IFEQ, IFGE, IFGT, IFLE, IFLT, IFNE, IFNONNULL, IFNULL, IF_ACMPEQ, IF_ACMPNE, IF_ICMPEQ, IF_ICMPGE, IF_ICMPGT, IF_ICMPLE, IF_ICMPLT, IF_ICMPNE}
use Rattle.insn_codec.specs.declared.insn.Insn.{Insn}
use Rattle.insn_codec.specs.declared.insn.Insn.TheVariants as insns
use Rattle.insn_codec.specs.Fits.{AimsWithin}
use Rattle.insn_codec.specs.Opcodes.{goes_on}
use Rattle.insn_codec.specs.Encoding.{opcode_of}
use Rattle.insn_codec.specs.declared.shape.Shape.{Shape}
use Rattle.insn_codec.specs.declared.shape.Shape.TheVariants as shapes
use Rattle.insn_codec.specs.Control.{jump_targets, successors}
use Rattle.insn_codec.specs.Shapes.{shape_of, test_shape, comparing_shape, branch_shape}
use Rattle.bytecode_model.specs.Operands.{index_of}
use Rattle.offset_patch.specs.Splicing.{aimed}
use Rattle.class_weaving.proofs.Aiming.{jumps_moved}
use Rattle.woven_typing.proofs.Kept.{retargeted}

module _ (fronts : List ℕ) where
  pub opcode_stays : (x : Insn) → opcode_of (aimed fronts x) ≡ opcode_of x
  opcode_stays (insns.Branch op to) = refl
  opcode_stays (insns.GotoW to) = refl
  opcode_stays (insns.Table other low targets) = refl
  opcode_stays (insns.Lookup other keys targets) = refl
  opcode_stays (insns.Plain op) = refl
  opcode_stays (insns.Byte n) = refl
  opcode_stays (insns.Short n) = refl
  opcode_stays (insns.Ldc index) = refl
  opcode_stays (insns.Pool op index) = refl
  opcode_stays (insns.Iface index count) = refl
  opcode_stays (insns.Local op slot wide) = refl
  opcode_stays (insns.Inc slot by wide) = refl
  opcode_stays (insns.NewArray kind) = refl

  pub index_stays : (x : Insn) → index_of (aimed fronts x) ≡ index_of x
  index_stays (insns.Branch op to) = refl
  index_stays (insns.GotoW to) = refl
  index_stays (insns.Table other low targets) = refl
  index_stays (insns.Lookup other keys targets) = refl
  index_stays (insns.Plain op) = refl
  index_stays (insns.Byte n) = refl
  index_stays (insns.Short n) = refl
  index_stays (insns.Ldc index) = refl
  index_stays (insns.Pool op index) = refl
  index_stays (insns.Iface index count) = refl
  index_stays (insns.Local op slot wide) = refl
  index_stays (insns.Inc slot by wide) = refl
  index_stays (insns.NewArray kind) = refl

-- ---- shapes

itself : (s : Shape) → s ≡ retargeted (λ to. to) s
itself shapes.Nothing = refl
itself (shapes.Push n) = refl
itself shapes.PushNull = refl
itself (shapes.Load k slot) = refl
itself (shapes.Store k slot) = refl
itself (shapes.Move form) = refl
itself (shapes.Two op) = refl
itself (shapes.One op) = refl
itself (shapes.Increment slot by) = refl
itself (shapes.Test relation to) = refl
itself (shapes.Compare relation to) = refl
itself (shapes.CompareReferences same to) = refl
itself (shapes.TestNull null to) = refl
itself (shapes.Goto to) = refl
itself shapes.Switch = refl
itself (shapes.Heap what) = refl

module _ (f : ℕ → ℕ) where
  pick : (b : Bool) (x y v w : Shape) → v ≡ retargeted f x → w ≡ retargeted f y → cond b v w ≡ retargeted f (cond b x y)
  pick true x y v w e g = e
  pick false x y v w e g = g

  tests : (op to : ℕ) → test_shape op (f to) ≡ retargeted f (test_shape op to)
  tests op to =
      pick (op == IFEQ) _ _ _ _ refl (pick (op == IFNE) _ _ _ _ refl (pick (op == IFLT) _ _ _ _ refl (pick (op == IFGE) _ _ _ _ refl (pick (op == IFGT) _ _ _ _ refl
      (pick (op == IFLE) _ _ _ _ refl refl)))))

  compares : (op to : ℕ) → comparing_shape op (f to) ≡ retargeted f (comparing_shape op to)
  compares op to =
      pick (op == IF_ICMPEQ) _ _ _ _ refl (pick (op == IF_ICMPNE) _ _ _ _ refl (pick (op == IF_ICMPLT) _ _ _ _ refl (pick (op == IF_ICMPGE) _ _ _ _ refl (pick (op == IF_ICMPGT) _ _ _ _ refl
      (pick (op == IF_ICMPLE) _ _ _ _ refl (pick (op == IF_ACMPEQ) _ _ _ _ refl (pick (op == IF_ACMPNE) _ _ _ _ refl (pick (op == GOTO) _ _ _ _ refl
      (pick (op == IFNULL) _ _ _ _ refl (pick (op == IFNONNULL) _ _ _ _ refl refl))))))))))

  branches : (op to : ℕ) → branch_shape op (f to) ≡ retargeted f (branch_shape op to)
  branches op to = pick (nat_lt op 159) _ _ _ _ (tests op to) (compares op to)

-- The shape is the same, but for its target.
pub record HasShape (fronts : List ℕ) (x : Insn) : Type 0 where
  pub to : ℕ → ℕ
  pub is : shape_of (aimed fronts x) ≡ retargeted to (shape_of x)

pub has_shape : (fronts : List ℕ) (x : Insn) → HasShape fronts x
has_shape fronts (insns.Branch op to) = record { to = slice_index fronts; is = branches (slice_index fronts) op to }
has_shape fronts (insns.GotoW to) = record { to = slice_index fronts; is = refl }
has_shape fronts (insns.Table other low targets) = record { to = λ t. t; is = refl }
has_shape fronts (insns.Lookup other keys targets) = record { to = λ t. t; is = refl }
has_shape fronts (insns.Plain op) = record { to = λ t. t; is = itself (shape_of (insns.Plain op)) }
has_shape fronts (insns.Byte n) = record { to = λ t. t; is = refl }
has_shape fronts (insns.Short n) = record { to = λ t. t; is = refl }
has_shape fronts (insns.Ldc index) = record { to = λ t. t; is = refl }
has_shape fronts (insns.Pool op index) = record { to = λ t. t; is = itself (shape_of (insns.Pool op index)) }
has_shape fronts (insns.Iface index count) = record { to = λ t. t; is = refl }
has_shape fronts (insns.Local op slot wide) = record { to = λ t. t; is = itself (shape_of (insns.Local op slot wide)) }
has_shape fronts (insns.Inc slot by wide) = record { to = λ t. t; is = refl }
has_shape fronts (insns.NewArray kind) = record { to = λ t. t; is = refl }

-- ---- successors

module _ (fronts : List ℕ) (n : ℕ) (moved : ℕ → ℕ) (same : (i : ℕ) → i < n → slice_index fronts i ≡ moved i) where
  next_moved : (b : Bool) (at next : ℕ) → next ≡ moved at → cond b (next ∷ []) [] ≡ map moved (cond b (at ∷ []) [])
  next_moved true at next e = ap (λ t. t ∷ []) e
  next_moved false at next e = refl

  -- Control goes to what control went to, at its front.
  pub successors_moved : (at : ℕ) (x : Insn) (front : ℕ) → AimsWithin n x → front + 1 ≡ moved (at + 1) → successors front (aimed fronts x) ≡ map moved (successors at x)
  successors_moved at x front h next =
      ap (λ (op : ℕ). cond (goes_on op) ((front + 1) ∷ []) [] ++ jump_targets (aimed fronts x)) (opcode_stays fronts x)
      ∙ ap (λ (ts : List ℕ). cond (goes_on (opcode_of x)) ((front + 1) ∷ []) [] ++ ts) (jumps_moved fronts n moved same x h)
      ∙ ap (λ (ts : List ℕ). ts ++ map moved (jump_targets x)) (next_moved (goes_on (opcode_of x)) (at + 1) (front + 1) next)
      ∙ sym (map-append moved (cond (goes_on (opcode_of x)) ((at + 1) ∷ []) []) (jump_targets x))
