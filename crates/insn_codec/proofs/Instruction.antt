-- An instruction after its opcode.
use Rattle.std.proofs.Common.{◌≡◌, ℕ, Result, Ok, refl, sym, subst}
use Rattle.mon_base.specs.Reading.{Place}
use Rattle.insn_codec.specs.declared.fault.CodeFault.{CodeFault}
use Rattle.insn_codec.specs.declared.insn.Insn.{Insn}
use Rattle.insn_codec.specs.Opcodes.{operands_of}
use Rattle.mon_base.specs.Answer.{Reads}
use Rattle.insn_codec.specs.declared.fault.CodeFault.TheVariants.{Memory}
use Rattle.insn_codec.specs.Reading.{Finder, Read, u1_at, operands_at, insn_at}

after_opcode : (find : Finder) (at : ℕ) (p : Place) (op : ℕ) (next : Place) → u1_at at p ≡ Ok (op, next)
    → insn_at find at p ≡ operands_at (operands_of op) find at op next
unfolding insn_at
after_opcode find at p op next h = rw h refl

pub reads_insn : (find : Finder) (at here : ℕ) (p : Place) (op : ℕ) (next : Place) (answer : Result Insn CodeFault) (new : Place)
    → at ≡ here → u1_at at p ≡ Ok (op, next) → Reads Memory answer (operands_at (operands_of op) find at op next) new
    → Reads Memory answer (insn_at find here p) new
reads_insn find at here p op next answer new is h read =
    subst (λ (n : ℕ). Reads Memory answer (insn_at find n p) new) is (
    subst (λ (r : Read Insn). Reads Memory answer r new) (sym (after_opcode find at p op next h)) read)
