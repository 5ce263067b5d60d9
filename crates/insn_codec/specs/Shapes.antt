-- What each instruction does, with numbers alone. (The Java Virtual Machine Specification, section 6.5.)
use Rattle.std.specs.Prelude.{ℕ, pos, ◌-ℤ◌, ◌-◌, ◌==◌, ◌&&◌, true, false, nat_le, nat_lt, Some, None, if◌then◌else◌}
use Rattle.insn_codec.specs.declared.insn.Insn.{Insn}
use Rattle.insn_codec.specs.declared.insn.Insn.TheVariants as insns
use Rattle.insn_codec.specs.declared.forms.StackForm.TheVariants as forms
use Rattle.insn_codec.specs.declared.shape.Heap.TheVariants as heap
use Rattle.insn_codec.specs.declared.shape.How.TheVariants as hows
use Rattle.insn_codec.specs.declared.shape.Item.TheVariants as items
use Rattle.insn_codec.specs.declared.shape.ValueKind.TheVariants as kinds
use Rattle.insn_codec.specs.declared.shape.One.TheVariants as one
use Rattle.insn_codec.specs.declared.shape.Relation.TheVariants as relations
use Rattle.insn_codec.specs.declared.shape.Two.TheVariants as two
use Rattle.insn_codec.specs.declared.shape.Shape.{Shape}
use Rattle.insn_codec.specs.declared.shape.Shape.TheVariants as shapes
use Rattle.insn_codec.specs.declared.opcodes.TheConstants.{
  ACONST_NULL,
  ICONST_M1,
  ICONST_0,
  ICONST_5,
  LDC_W,
  ILOAD,
  ALOAD,
  ILOAD_0,
  ILOAD_3,
  ALOAD_0,
  ALOAD_3,
  IALOAD,
  AALOAD,
  BALOAD,
  CALOAD,
  SALOAD,
  ISTORE,
  ASTORE,
  ISTORE_0,
  ISTORE_3,
  ASTORE_0,
  ASTORE_3,
  IASTORE,
  AASTORE,
  BASTORE,
  CASTORE,
  SASTORE,
  POP,
  POP2,
  DUP,
  DUP_X1,
  DUP_X2,
  DUP2,
  DUP2_X1,
  DUP2_X2,
  SWAP,
  IADD,
  ISUB,
  IMUL,
  IDIV,
  IREM,
  INEG,
  ISHL,
  ISHR,
  IUSHR,
  IAND,
  IOR,
  IXOR,
  I2B,
  I2C,
  I2S,
  IFEQ,
  IFNE,
  IFLT,
  IFGE,
  IFGT,
  IFLE,
  IF_ICMPEQ,
  IF_ICMPNE,
  IF_ICMPLT,
  IF_ICMPGE,
  IF_ICMPGT,
  IF_ICMPLE,
  IF_ACMPEQ,
  IF_ACMPNE,
  GOTO,
  IRETURN,
  ARETURN,
  RETURN,
  GETSTATIC,
  PUTSTATIC,
  GETFIELD,
  PUTFIELD,
  INVOKEVIRTUAL,
  INVOKESPECIAL,
  INVOKESTATIC,
  NEW,
  ANEWARRAY,
  ARRAYLENGTH,
  ATHROW,
  CHECKCAST,
  INSTANCEOF,
  MONITORENTER,
  MONITOREXIT,
  IFNULL,
  IFNONNULL,
}

-- ---- opcodes without operands

-- up to aload_3
abbrev pub pushing_shape : ℕ → Shape
pushing_shape op =
    if op == ACONST_NULL then shapes.PushNull
    else if nat_le ICONST_M1 op && nat_le op ICONST_5 then shapes.Push (pos op -ℤ pos ICONST_0)
    else if nat_le ILOAD_0 op && nat_le op ILOAD_3 then shapes.Load kinds.Int (op - ILOAD_0)
    else if nat_le ALOAD_0 op && nat_le op ALOAD_3 then shapes.Load kinds.Reference (op - ALOAD_0)
    else shapes.Nothing

-- reading an array, storing into a local, writing an array
abbrev pub storing_shape : ℕ → Shape
storing_shape op =
    if op == IALOAD then shapes.Heap (heap.ReadItem items.Int)
    else if op == AALOAD then shapes.Heap (heap.ReadItem items.Reference)
    else if op == BALOAD then shapes.Heap (heap.ReadItem items.Byte)
    else if op == CALOAD then shapes.Heap (heap.ReadItem items.Char)
    else if op == SALOAD then shapes.Heap (heap.ReadItem items.Short)
    else if nat_le ISTORE_0 op && nat_le op ISTORE_3 then shapes.Store kinds.Int (op - ISTORE_0)
    else if nat_le ASTORE_0 op && nat_le op ASTORE_3 then shapes.Store kinds.Reference (op - ASTORE_0)
    else if op == IASTORE then shapes.Heap (heap.WriteItem items.Int)
    else if op == AASTORE then shapes.Heap (heap.WriteItem items.Reference)
    else if op == BASTORE then shapes.Heap (heap.WriteItem items.Byte)
    else if op == CASTORE then shapes.Heap (heap.WriteItem items.Char)
    else if op == SASTORE then shapes.Heap (heap.WriteItem items.Short)
    else shapes.Nothing

-- moving operands
abbrev pub moving_shape : ℕ → Shape
moving_shape op =
    if op == POP then shapes.Move forms.Pop
    else if op == POP2 then shapes.Move forms.Pop2
    else if op == DUP then shapes.Move forms.Dup
    else if op == DUP_X1 then shapes.Move forms.DupX1
    else if op == DUP_X2 then shapes.Move forms.DupX2
    else if op == DUP2 then shapes.Move forms.Dup2
    else if op == DUP2_X1 then shapes.Move forms.Dup2X1
    else if op == DUP2_X2 then shapes.Move forms.Dup2X2
    else if op == SWAP then shapes.Move forms.Swap
    else shapes.Nothing

-- making numbers of numbers
abbrev pub number_shape : ℕ → Shape
number_shape op =
    if op == IADD then shapes.Two two.Add
    else if op == ISUB then shapes.Two two.Subtract
    else if op == IMUL then shapes.Two two.Multiply
    else if op == IDIV then shapes.Heap (heap.Divide false)
    else if op == IREM then shapes.Heap (heap.Divide true)
    else if op == INEG then shapes.One one.Negate
    else if op == ISHL then shapes.Two two.ShiftLeft
    else if op == ISHR then shapes.Two two.ShiftRight
    else if op == IUSHR then shapes.Two two.ShiftRightUnsigned
    else if op == IAND then shapes.Two two.And
    else if op == IOR then shapes.Two two.Or
    else if op == IXOR then shapes.Two two.Xor
    else if op == I2B then shapes.One one.ToByte
    else if op == I2C then shapes.One one.ToChar
    else if op == I2S then shapes.One one.ToShort
    else shapes.Nothing

-- from ireturn on
abbrev pub leaving_shape : ℕ → Shape
leaving_shape op =
    if op == IRETURN then shapes.Heap (heap.Return (Some kinds.Int))
    else if op == ARETURN then shapes.Heap (heap.Return (Some kinds.Reference))
    else if op == RETURN then shapes.Heap (heap.Return None)
    else if op == ARRAYLENGTH then shapes.Heap heap.Length
    else if op == ATHROW then shapes.Heap heap.Throw
    else if op == MONITORENTER then shapes.Heap heap.Enter
    else if op == MONITOREXIT then shapes.Heap heap.Exit
    else shapes.Nothing

abbrev pub plain_shape : ℕ → Shape
plain_shape op =
    if nat_lt op IALOAD then pushing_shape op
    else if nat_lt op POP then storing_shape op
    else if nat_lt op IADD then moving_shape op
    else if nat_lt op IFEQ then number_shape op
    else leaving_shape op

-- ---- opcodes with operands

-- naming a constant by two bytes
abbrev pub pool_shape : ℕ → Shape
pool_shape op =
    if op == LDC_W then shapes.Heap heap.Constant
    else if op == GETSTATIC then shapes.Heap heap.ReadStatic
    else if op == PUTSTATIC then shapes.Heap heap.WriteStatic
    else if op == GETFIELD then shapes.Heap heap.ReadField
    else if op == PUTFIELD then shapes.Heap heap.WriteField
    else if op == INVOKEVIRTUAL then shapes.Heap (heap.Call hows.Virtual)
    else if op == INVOKESPECIAL then shapes.Heap (heap.Call hows.Special)
    else if op == INVOKESTATIC then shapes.Heap (heap.Call hows.Static)
    else if op == NEW then shapes.Heap heap.New
    else if op == ANEWARRAY then shapes.Heap heap.NewArrayOf
    else if op == CHECKCAST then shapes.Heap heap.Cast
    else if op == INSTANCEOF then shapes.Heap heap.IsInstance
    else shapes.Nothing

-- loads and stores that name their local
abbrev pub local_shape : ℕ → ℕ → Shape
local_shape op slot =
    if op == ILOAD then shapes.Load kinds.Int slot
    else if op == ALOAD then shapes.Load kinds.Reference slot
    else if op == ISTORE then shapes.Store kinds.Int slot
    else if op == ASTORE then shapes.Store kinds.Reference slot
    else shapes.Nothing

-- ifeq to ifle
abbrev pub test_shape : ℕ → ℕ → Shape
test_shape op to =
    if op == IFEQ then shapes.Test relations.Equal to
    else if op == IFNE then shapes.Test relations.NotEqual to
    else if op == IFLT then shapes.Test relations.Less to
    else if op == IFGE then shapes.Test relations.GreaterOrEqual to
    else if op == IFGT then shapes.Test relations.Greater to
    else if op == IFLE then shapes.Test relations.LessOrEqual to
    else shapes.Nothing

-- from if_icmpeq on
abbrev pub comparing_shape : ℕ → ℕ → Shape
comparing_shape op to =
    if op == IF_ICMPEQ then shapes.Compare relations.Equal to
    else if op == IF_ICMPNE then shapes.Compare relations.NotEqual to
    else if op == IF_ICMPLT then shapes.Compare relations.Less to
    else if op == IF_ICMPGE then shapes.Compare relations.GreaterOrEqual to
    else if op == IF_ICMPGT then shapes.Compare relations.Greater to
    else if op == IF_ICMPLE then shapes.Compare relations.LessOrEqual to
    else if op == IF_ACMPEQ then shapes.CompareReferences true to
    else if op == IF_ACMPNE then shapes.CompareReferences false to
    else if op == GOTO then shapes.Goto to
    else if op == IFNULL then shapes.TestNull true to
    else if op == IFNONNULL then shapes.TestNull false to
    else shapes.Nothing

abbrev pub branch_shape : ℕ → ℕ → Shape
branch_shape op to = if nat_lt op IF_ICMPEQ then test_shape op to else comparing_shape op to

abbrev pub shape_of : Insn → Shape
shape_of (insns.Plain op) = plain_shape op
shape_of (insns.Byte n) = shapes.Push n
shape_of (insns.Short n) = shapes.Push n
shape_of (insns.Ldc index) = shapes.Heap heap.Constant
shape_of (insns.Pool op index) = pool_shape op
shape_of (insns.Iface index count) = shapes.Heap (heap.Call hows.Interface)
shape_of (insns.Local op slot wide) = local_shape op slot
shape_of (insns.Inc slot by wide) = shapes.Increment slot by
shape_of (insns.Branch op to) = branch_shape op to
shape_of (insns.GotoW to) = shapes.Goto to
shape_of (insns.NewArray kind) = shapes.Heap (heap.NewArray kind)
shape_of (insns.Table other low targets) = shapes.Switch
shape_of (insns.Lookup other keys targets) = shapes.Switch
