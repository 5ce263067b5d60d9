-- The opcodes: the name of each, what follows it, whether it works on its frame alone, and whether control can go on
-- after it.
-- (The Java Virtual Machine Specification, chapter 6.)
use Rattle.std.specs.Prelude.{ℕ, Bool, true, false, List, [], ◌∷◌, slice_index_or, codes}
use Rattle.insn_codec.specs.declared.opcode.Operands.{Operands}
use Rattle.insn_codec.specs.declared.opcode.Operands.TheVariants as ops

pub record Opcode : Type 0 where
  pub name : List ℕ
  pub operands : Operands
  pub is_frame_only : Bool
  pub goes_on : Bool

-- works on its frame alone, and control can go on
abbrev frame : List ℕ → Operands → Opcode
frame name operands = record { name = name; operands = operands; is_frame_only = true; goes_on = true }

-- works on its frame alone, and control goes elsewhere
abbrev frame_jump : List ℕ → Operands → Opcode
frame_jump name operands = record { name = name; operands = operands; is_frame_only = true; goes_on = false }

-- works on more than its frame
abbrev other : List ℕ → Operands → Opcode
other name operands = record { name = name; operands = operands; is_frame_only = false; goes_on = true }

-- leaves its frame
abbrev leaves : List ℕ → Operands → Opcode
leaves name operands = record { name = name; operands = operands; is_frame_only = false; goes_on = false }

-- stands in no code of this subset
abbrev left_out : List ℕ → Opcode
left_out name = record { name = name; operands = ops.LeftOut; is_frame_only = false; goes_on = true }

-- stands in no code
abbrev pub unknown : List ℕ → Opcode
unknown name = record { name = name; operands = ops.Unknown; is_frame_only = false; goes_on = true }

-- the opcodes from 0 on
abbrev pub opcodes : List Opcode
opcodes =
    frame (codes "nop") ops.Plain ∷
    frame (codes "aconst_null") ops.Plain ∷
    frame (codes "iconst_m1") ops.Plain ∷
    frame (codes "iconst_0") ops.Plain ∷
    frame (codes "iconst_1") ops.Plain ∷
    frame (codes "iconst_2") ops.Plain ∷
    frame (codes "iconst_3") ops.Plain ∷
    frame (codes "iconst_4") ops.Plain ∷
    frame (codes "iconst_5") ops.Plain ∷
    left_out (codes "lconst_0") ∷
    left_out (codes "lconst_1") ∷
    left_out (codes "fconst_0") ∷
    left_out (codes "fconst_1") ∷
    left_out (codes "fconst_2") ∷
    left_out (codes "dconst_0") ∷
    left_out (codes "dconst_1") ∷
    frame (codes "bipush") ops.Byte ∷
    frame (codes "sipush") ops.Short ∷
    other (codes "ldc") ops.Ldc ∷
    other (codes "ldc_w") ops.Pool ∷
    left_out (codes "ldc2_w") ∷
    frame (codes "iload") ops.Local ∷
    left_out (codes "lload") ∷
    left_out (codes "fload") ∷
    left_out (codes "dload") ∷
    frame (codes "aload") ops.Local ∷
    frame (codes "iload_0") ops.Plain ∷
    frame (codes "iload_1") ops.Plain ∷
    frame (codes "iload_2") ops.Plain ∷
    frame (codes "iload_3") ops.Plain ∷
    left_out (codes "lload_0") ∷
    left_out (codes "lload_1") ∷
    left_out (codes "lload_2") ∷
    left_out (codes "lload_3") ∷
    left_out (codes "fload_0") ∷
    left_out (codes "fload_1") ∷
    left_out (codes "fload_2") ∷
    left_out (codes "fload_3") ∷
    left_out (codes "dload_0") ∷
    left_out (codes "dload_1") ∷
    left_out (codes "dload_2") ∷
    left_out (codes "dload_3") ∷
    frame (codes "aload_0") ops.Plain ∷
    frame (codes "aload_1") ops.Plain ∷
    frame (codes "aload_2") ops.Plain ∷
    frame (codes "aload_3") ops.Plain ∷
    other (codes "iaload") ops.Plain ∷
    left_out (codes "laload") ∷
    left_out (codes "faload") ∷
    left_out (codes "daload") ∷
    other (codes "aaload") ops.Plain ∷
    other (codes "baload") ops.Plain ∷
    other (codes "caload") ops.Plain ∷
    other (codes "saload") ops.Plain ∷
    frame (codes "istore") ops.Local ∷
    left_out (codes "lstore") ∷
    left_out (codes "fstore") ∷
    left_out (codes "dstore") ∷
    frame (codes "astore") ops.Local ∷
    frame (codes "istore_0") ops.Plain ∷
    frame (codes "istore_1") ops.Plain ∷
    frame (codes "istore_2") ops.Plain ∷
    frame (codes "istore_3") ops.Plain ∷
    left_out (codes "lstore_0") ∷
    left_out (codes "lstore_1") ∷
    left_out (codes "lstore_2") ∷
    left_out (codes "lstore_3") ∷
    left_out (codes "fstore_0") ∷
    left_out (codes "fstore_1") ∷
    left_out (codes "fstore_2") ∷
    left_out (codes "fstore_3") ∷
    left_out (codes "dstore_0") ∷
    left_out (codes "dstore_1") ∷
    left_out (codes "dstore_2") ∷
    left_out (codes "dstore_3") ∷
    frame (codes "astore_0") ops.Plain ∷
    frame (codes "astore_1") ops.Plain ∷
    frame (codes "astore_2") ops.Plain ∷
    frame (codes "astore_3") ops.Plain ∷
    other (codes "iastore") ops.Plain ∷
    left_out (codes "lastore") ∷
    left_out (codes "fastore") ∷
    left_out (codes "dastore") ∷
    other (codes "aastore") ops.Plain ∷
    other (codes "bastore") ops.Plain ∷
    other (codes "castore") ops.Plain ∷
    other (codes "sastore") ops.Plain ∷
    frame (codes "pop") ops.Plain ∷
    frame (codes "pop2") ops.Plain ∷
    frame (codes "dup") ops.Plain ∷
    frame (codes "dup_x1") ops.Plain ∷
    frame (codes "dup_x2") ops.Plain ∷
    frame (codes "dup2") ops.Plain ∷
    frame (codes "dup2_x1") ops.Plain ∷
    frame (codes "dup2_x2") ops.Plain ∷
    frame (codes "swap") ops.Plain ∷
    frame (codes "iadd") ops.Plain ∷
    left_out (codes "ladd") ∷
    left_out (codes "fadd") ∷
    left_out (codes "dadd") ∷
    frame (codes "isub") ops.Plain ∷
    left_out (codes "lsub") ∷
    left_out (codes "fsub") ∷
    left_out (codes "dsub") ∷
    frame (codes "imul") ops.Plain ∷
    left_out (codes "lmul") ∷
    left_out (codes "fmul") ∷
    left_out (codes "dmul") ∷
    other (codes "idiv") ops.Plain ∷
    left_out (codes "ldiv") ∷
    left_out (codes "fdiv") ∷
    left_out (codes "ddiv") ∷
    other (codes "irem") ops.Plain ∷
    left_out (codes "lrem") ∷
    left_out (codes "frem") ∷
    left_out (codes "drem") ∷
    frame (codes "ineg") ops.Plain ∷
    left_out (codes "lneg") ∷
    left_out (codes "fneg") ∷
    left_out (codes "dneg") ∷
    frame (codes "ishl") ops.Plain ∷
    left_out (codes "lshl") ∷
    frame (codes "ishr") ops.Plain ∷
    left_out (codes "lshr") ∷
    frame (codes "iushr") ops.Plain ∷
    left_out (codes "lushr") ∷
    frame (codes "iand") ops.Plain ∷
    left_out (codes "land") ∷
    frame (codes "ior") ops.Plain ∷
    left_out (codes "lor") ∷
    frame (codes "ixor") ops.Plain ∷
    left_out (codes "lxor") ∷
    frame (codes "iinc") ops.Inc ∷
    left_out (codes "i2l") ∷
    left_out (codes "i2f") ∷
    left_out (codes "i2d") ∷
    left_out (codes "l2i") ∷
    left_out (codes "l2f") ∷
    left_out (codes "l2d") ∷
    left_out (codes "f2i") ∷
    left_out (codes "f2l") ∷
    left_out (codes "f2d") ∷
    left_out (codes "d2i") ∷
    left_out (codes "d2l") ∷
    left_out (codes "d2f") ∷
    frame (codes "i2b") ops.Plain ∷
    frame (codes "i2c") ops.Plain ∷
    frame (codes "i2s") ops.Plain ∷
    left_out (codes "lcmp") ∷
    left_out (codes "fcmpl") ∷
    left_out (codes "fcmpg") ∷
    left_out (codes "dcmpl") ∷
    left_out (codes "dcmpg") ∷
    frame (codes "ifeq") ops.Branch ∷
    frame (codes "ifne") ops.Branch ∷
    frame (codes "iflt") ops.Branch ∷
    frame (codes "ifge") ops.Branch ∷
    frame (codes "ifgt") ops.Branch ∷
    frame (codes "ifle") ops.Branch ∷
    frame (codes "if_icmpeq") ops.Branch ∷
    frame (codes "if_icmpne") ops.Branch ∷
    frame (codes "if_icmplt") ops.Branch ∷
    frame (codes "if_icmpge") ops.Branch ∷
    frame (codes "if_icmpgt") ops.Branch ∷
    frame (codes "if_icmple") ops.Branch ∷
    frame (codes "if_acmpeq") ops.Branch ∷
    frame (codes "if_acmpne") ops.Branch ∷
    frame_jump (codes "goto") ops.Branch ∷
    left_out (codes "jsr") ∷
    left_out (codes "ret") ∷
    frame_jump (codes "tableswitch") ops.Table ∷
    frame_jump (codes "lookupswitch") ops.Lookup ∷
    leaves (codes "ireturn") ops.Plain ∷
    left_out (codes "lreturn") ∷
    left_out (codes "freturn") ∷
    left_out (codes "dreturn") ∷
    leaves (codes "areturn") ops.Plain ∷
    leaves (codes "return") ops.Plain ∷
    other (codes "getstatic") ops.Pool ∷
    other (codes "putstatic") ops.Pool ∷
    other (codes "getfield") ops.Pool ∷
    other (codes "putfield") ops.Pool ∷
    other (codes "invokevirtual") ops.Pool ∷
    other (codes "invokespecial") ops.Pool ∷
    other (codes "invokestatic") ops.Pool ∷
    other (codes "invokeinterface") ops.Iface ∷
    unknown (codes "xxxunusedxxx") ∷
    other (codes "new") ops.Pool ∷
    other (codes "newarray") ops.NewArray ∷
    other (codes "anewarray") ops.Pool ∷
    other (codes "arraylength") ops.Plain ∷
    leaves (codes "athrow") ops.Plain ∷
    other (codes "checkcast") ops.Pool ∷
    other (codes "instanceof") ops.Pool ∷
    other (codes "monitorenter") ops.Plain ∷
    other (codes "monitorexit") ops.Plain ∷
    frame (codes "wide") ops.Wide ∷
    left_out (codes "multianewarray") ∷
    frame (codes "ifnull") ops.Branch ∷
    frame (codes "ifnonnull") ops.Branch ∷
    frame_jump (codes "goto_w") ops.GotoW ∷
    left_out (codes "jsr_w") ∷
    []

unfoldable pub opcode_at : ℕ → Opcode
opcode_at op = slice_index_or opcodes op (unknown [])

abbrev pub operands_of : ℕ → Operands
operands_of op = (opcode_at op).operands

abbrev pub is_frame_only : ℕ → Bool
is_frame_only op = (opcode_at op).is_frame_only

abbrev pub goes_on : ℕ → Bool
goes_on op = (opcode_at op).goes_on

abbrev pub name_of : ℕ → List ℕ
name_of op = (opcode_at op).name
