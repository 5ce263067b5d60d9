-- An instruction whose operand is a method of the listing calls it, and control goes on after it.
use Rattle.std.proofs.Common.{◌≡◌, ℕ, Bool, true, false, ◌||◌, List, Ok, refl, sym, ap, subst, ◌∙◌}
use Rattle.std.specs.Prelude.{◌==◌, if◌then◌else◌, slice_get, ok_or}
use Rattle.std.proofs.lemmas.Bool.{eqb-true}
use Rattle.mon_base.specs.Reading.{◌>>=◌}
use Rattle.mon_base.proofs.Reading.{bind_ok, ok_is}
use Rattle.class_codec.specs.declared.tree.ClassFile.{ClassFile}
use Rattle.class_codec.specs.declared.tree.Const.{Const}
use Rattle.class_codec.specs.declared.tree.Const.TheVariants as constants
use Rattle.insn_codec.specs.declared.insn.Insn.{Insn}
use Rattle.insn_codec.specs.declared.insn.Insn.TheVariants as insns
use Rattle.insn_codec.specs.declared.opcodes.TheConstants.{LDC_W, GETSTATIC, PUTSTATIC, GETFIELD, PUTFIELD, INVOKEVIRTUAL, INVOKESPECIAL, INVOKESTATIC, NEW, ANEWARRAY, CHECKCAST, INSTANCEOF, INVOKEINTERFACE}
use Rattle.insn_codec.specs.Opcodes.{opcode_at, goes_on}
use Rattle.insn_codec.specs.Encoding.{opcode_of}
use Rattle.api_listing.specs.declared.types.Listing.{Listing}
use Rattle.bytecode_model.specs.declared.operand.Use.{Use}
use Rattle.bytecode_model.specs.declared.operand.Use.TheVariants as uses
use Rattle.bytecode_model.specs.declared.program.Target.{Target}
use Rattle.bytecode_model.specs.declared.program.Target.TheVariants as target
use Rattle.bytecode_model.specs.Heads.{text_at}
use Rattle.bytecode_model.specs.Operands.{known_in, id_at, use_of, use_of_opcode, index_of}
use Rattle.class_linking.specs.declared.operand_fault.OperandFault.{OperandFault}
use Rattle.class_linking.specs.declared.operand_fault.OperandFault.TheVariants as operand
use Rattle.class_linking.specs.Operands.{class_linked, used, is_nothing, operand_linked}
use Rattle.offset_patch.specs.Plan.{IsListedCall}
use Rattle.woven_linking.proofs.Found.{class_is, access_is}

-- ---- an instruction that calls

abbrev is_call : Use → Bool
is_call (uses.Call static of_interface) = true
is_call uses.Nothing = false
is_call uses.Load = false
is_call (uses.Field static writes) = false
is_call uses.New = false
is_call uses.Type = false

call_goes_on : (goes_on INVOKEVIRTUAL ≡ true) × (goes_on INVOKESPECIAL ≡ true) × (goes_on INVOKESTATIC ≡ true) × (goes_on INVOKEINTERFACE ≡ true)
unfolding opcode_at
call_goes_on = (refl, refl, refl, refl)

opcode_goes_on : (op : ℕ) → is_call (use_of_opcode op) ≡ true → goes_on op ≡ true
opcode_goes_on op =
    by (op == LDC_W) (op == GETSTATIC) (op == PUTSTATIC) (op == GETFIELD) (op == PUTFIELD) (op == INVOKEVIRTUAL) (op == INVOKESPECIAL) (op == INVOKESTATIC) (op == NEW)
    ((op == ANEWARRAY) || ((op == CHECKCAST) || (op == INSTANCEOF)))
    (λ e. ap goes_on (eqb-true op INVOKEVIRTUAL e) ∙ call_goes_on.0) (λ e. ap goes_on (eqb-true op INVOKESPECIAL e) ∙ call_goes_on.1)
    (λ e. ap goes_on (eqb-true op INVOKESTATIC e) ∙ call_goes_on.2)
  where
    by : (a b c d e f g h i j : Bool) → (f ≡ true → goes_on op ≡ true) → (g ≡ true → goes_on op ≡ true) → (h ≡ true → goes_on op ≡ true)
        → is_call (if a then uses.Load else if b then uses.Field true false else if c then uses.Field true true else if d then uses.Field false false else if e then uses.Field false true
        else if f || g then uses.Call false false else if h then uses.Call true false else if i then uses.New else if j then uses.Type else uses.Nothing) ≡ true
        → goes_on op ≡ true
    by true b c d e f g h i j x y z is = absurd cc
    by false true c d e f g h i j x y z is = absurd cc
    by false false true d e f g h i j x y z is = absurd cc
    by false false false true e f g h i j x y z is = absurd cc
    by false false false false true f g h i j x y z is = absurd cc
    by false false false false false true g h i j x y z is = x refl
    by false false false false false false true h i j x y z is = y refl
    by false false false false false false false true i j x y z is = z refl
    by false false false false false false false false true j x y z is = absurd cc
    by false false false false false false false false false true x y z is = absurd cc
    by false false false false false false false false false false x y z is = absurd cc

insn_goes_on : (x : Insn) → is_call (use_of x) ≡ true → goes_on (opcode_of x) ≡ true
insn_goes_on (insns.Pool op index) e = opcode_goes_on op e
insn_goes_on (insns.Iface index count) e = call_goes_on.3
insn_goes_on x e = absurd cc

-- ---- an operand that is called

abbrev IsNoCall : Target → Type 0
IsNoCall t = IsListedCall t → ⊥

module _ (files : List ClassFile) (listing : Listing) (pool : List Const) where
  class_no_call : (arrays : Bool) (name : ℕ) (t : Target) → class_linked arrays (known_in files listing) (text_at pool name) ≡ Ok t → IsNoCall t
  class_no_call arrays name t e = subst IsNoCall (class_is arrays (known_in files listing) (text_at pool name) t e) (λ h. h)

  use_calls : (u : Use) (c : Const) (t : Target) → used files listing pool u c ≡ Ok t → IsListedCall t → is_call u ≡ true
  use_calls uses.Nothing c t e h = absurd (subst IsListedCall (sym (ok_is OperandFault target.None t e)) h)
  use_calls uses.Load (constants.Integer n) t e h = absurd (subst IsListedCall (sym (ok_is OperandFault (target.Number n) t e)) h)
  use_calls uses.Load (constants.Str text) t e h = absurd (subst IsListedCall (sym (ok_is OperandFault (target.Literal _) t e)) h)
  use_calls uses.Load (constants.Class name) t e h = absurd (class_no_call false name t e h)
  use_calls uses.Load c t e h = absurd cc
  use_calls (uses.Field static writes) (constants.Field class member) t e h =
      absurd (access_is IsNoCall files listing (λ class field h. h) (λ field h. h) static writes (id_at pool class member) t e h)
  use_calls (uses.Field static writes) c t e h = absurd cc
  use_calls (uses.Call static of_interface) c t e h = refl
  use_calls uses.New (constants.Class name) t e h = absurd (class_no_call false name t e h)
  use_calls uses.New c t e h = absurd cc
  use_calls uses.Type (constants.Class name) t e h = absurd (class_no_call true name t e h)
  use_calls uses.Type c t e h = absurd cc

  pub call_goes : (x : Insn) (t : Target) → operand_linked files listing pool x ≡ Ok t → IsListedCall t → goes_on (opcode_of x) ≡ true
  call_goes x t e h = by (is_nothing (use_of x)) e where
    by : (b : Bool) → (if b then Ok target.None else (ok_or (slice_get pool (index_of x)) operand.Wrong >>= used files listing pool (use_of x))) ≡ Ok t → goes_on (opcode_of x) ≡ true
    by true f = absurd (subst IsListedCall (sym (ok_is OperandFault target.None t f)) h)
    by false f =
        let a = bind_ok (ok_or (slice_get pool (index_of x)) operand.Wrong) (used files listing pool (use_of x)) t f in
        insn_goes_on x (use_calls (use_of x) a.0 t a.2 h)
