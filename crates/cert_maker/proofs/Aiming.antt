-- A call stays as it is where targets are at their fronts.
use Rattle.std.proofs.Common.{◌≡◌, ℕ, Bool, true, false, cond, List, [], refl, ap, sym, ◌∙◌}
use Rattle.std.specs.Prelude.{◌==◌, nat_lt}
use Rattle.std.proofs.lemmas.Bool.{false≢true}
use Rattle.insn_codec.specs.declared.opcodes.TheConstants.{GOTO, IFEQ, IFGE, IFGT, IFLE, IFLT, IFNE, IFNONNULL, IFNULL, IF_ACMPEQ, IF_ACMPNE, IF_ICMPEQ, IF_ICMPGE, IF_ICMPGT, IF_ICMPLE, IF_ICMPLT, IF_ICMPNE}
use Rattle.insn_codec.specs.declared.insn.Insn.{Insn}
use Rattle.insn_codec.specs.declared.insn.Insn.TheVariants as insns
use Rattle.insn_codec.specs.declared.shape.Heap.TheVariants as heap
use Rattle.insn_codec.specs.declared.shape.How.{How}
use Rattle.insn_codec.specs.declared.shape.Shape.{Shape}
use Rattle.insn_codec.specs.declared.shape.Shape.TheVariants as shapes
use Rattle.insn_codec.specs.Control.{jump_targets}
use Rattle.insn_codec.specs.Shapes.{branch_shape, comparing_shape, shape_of, test_shape}
use Rattle.offset_patch.specs.Splicing.{aimed}
use Rattle.block_logic.specs.Operands.{calls}

either : (b : Bool) (x y : Shape) → calls x ≡ false → calls y ≡ false → calls (cond b x y) ≡ false
either true x y p q = p
either false x y p q = q

tests : (op to : ℕ) → calls (test_shape op to) ≡ false
tests op to =
    either (op == IFEQ) _ _ refl (either (op == IFNE) _ _ refl (either (op == IFLT) _ _ refl (either (op == IFGE) _ _ refl
    (either (op == IFGT) _ _ refl (either (op == IFLE) _ _ refl refl)))))

compares : (op to : ℕ) → calls (comparing_shape op to) ≡ false
compares op to =
    either (op == IF_ICMPEQ) _ _ refl (either (op == IF_ICMPNE) _ _ refl (either (op == IF_ICMPLT) _ _ refl (either (op == IF_ICMPGE) _ _ refl
    (either (op == IF_ICMPGT) _ _ refl (either (op == IF_ICMPLE) _ _ refl (either (op == IF_ACMPEQ) _ _ refl (either (op == IF_ACMPNE) _ _ refl
    (either (op == GOTO) _ _ refl (either (op == IFNULL) _ _ refl (either (op == IFNONNULL) _ _ refl refl))))))))))

branches : (op to : ℕ) → calls (branch_shape op to) ≡ false
branches op to = either (nat_lt op 159) _ _ (tests op to) (compares op to)

-- A call names no target.
pub record GoesNowhere (x : Insn) : Type 0 where
  pub stays : (fronts : List ℕ) → aimed fronts x ≡ x
  pub jumps : jump_targets x ≡ []

pub call_goes : (x : Insn) (how : How) → shape_of x ≡ shapes.Heap (heap.Call how) → GoesNowhere x
call_goes (insns.Branch op to) how e = absurd (false≢true (sym (branches op to) ∙ ap calls e))
call_goes (insns.GotoW to) how e = absurd (false≢true (ap calls e))
call_goes (insns.Table other low targets) how e = absurd (false≢true (ap calls e))
call_goes (insns.Lookup other keys targets) how e = absurd (false≢true (ap calls e))
call_goes (insns.Plain op) how e = record { stays = λ fronts. refl; jumps = refl }
call_goes (insns.Byte k) how e = record { stays = λ fronts. refl; jumps = refl }
call_goes (insns.Short k) how e = record { stays = λ fronts. refl; jumps = refl }
call_goes (insns.Ldc index) how e = record { stays = λ fronts. refl; jumps = refl }
call_goes (insns.Pool op index) how e = record { stays = λ fronts. refl; jumps = refl }
call_goes (insns.Iface index count) how e = record { stays = λ fronts. refl; jumps = refl }
call_goes (insns.Local op slot wide) how e = record { stays = λ fronts. refl; jumps = refl }
call_goes (insns.Inc slot by wide) how e = record { stays = λ fronts. refl; jumps = refl }
call_goes (insns.NewArray kind) how e = record { stays = λ fronts. refl; jumps = refl }
