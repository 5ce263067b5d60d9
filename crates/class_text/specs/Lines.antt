-- The lines that are printed of class files: words with a space between two, and a newline at the end. (docs/COMMANDS.md)
use Rattle.std.specs.Prelude.{ℕ, ◌==◌, Bool, true, false, if◌then◌else◌, List, [], ◌∷◌, ◌++◌, map, codes, Option, Some, None, slice_get, option_and_then}
use Rattle.std.specs.List.{flat_map}
use Rattle.std.specs.Fmt.{decimal, signed_decimal}
use Rattle.mon_base.specs.declared.method.MethodId.{MethodId}
use Rattle.class_codec.specs.declared.tree.Const.{Const}
use Rattle.class_codec.specs.declared.tree.Const.TheVariants as constants
use Rattle.class_codec.specs.declared.tree.TableEntry.{TableEntry}
use Rattle.class_codec.specs.declared.tree.Member.{Member}
use Rattle.class_codec.specs.declared.tree.ClassFile.{ClassFile}
use Rattle.insn_codec.specs.declared.insn.Insn.{Insn}
use Rattle.insn_codec.specs.declared.insn.Insn.TheVariants as insns
use Rattle.insn_codec.specs.Opcodes.{name_of}
use Rattle.insn_codec.specs.Encoding.{opcode_of}
use Rattle.api_listing.specs.declared.types.ListedMethod.{ListedMethod}
use Rattle.api_listing.specs.declared.types.Listing.{Listing}
use Rattle.api_listing.specs.Nearest.{nearest}
use Rattle.bytecode_model.specs.Heads.{text_at, class_at}
use Rattle.bytecode_model.specs.Operands.{id_at, index_of, use_of}
use Rattle.bytecode_model.specs.declared.operand.Use.{Use}
use Rattle.bytecode_model.specs.declared.operand.Use.TheVariants as uses

abbrev pub Word : Type 0
Word = List ℕ

-- a word after a space
abbrev pub after_space : Word → List ℕ
after_space word = 32 ∷ word

abbrev pub spaced : List Word → List ℕ
spaced words = flat_map after_space words

-- a line of these words
abbrev pub line : Word → List Word → List ℕ
line first others = first ++ (spaced others ++ 10 ∷ [])

-- ---- a class, a method, a handler

abbrev pub class_line : ClassFile → List ℕ
class_line file = line (codes "class") (class_at file.pool file.this_class ∷ codes "extends" ∷ class_at file.pool file.super_class ∷ [])

abbrev pub method_line : List Const → Member → ℕ → ℕ → List ℕ
method_line pool member stack locals =
    line (codes "method") (text_at pool member.name ∷ text_at pool member.desc ∷ codes "stack" ∷ decimal stack ∷ codes "locals" ∷ decimal locals ∷ [])

-- the class that is caught
abbrev pub caught : List Const → ℕ → Word
caught pool class = if class == 0 then codes "any" else class_at pool class

abbrev pub handler_line : List Const → TableEntry → List ℕ
handler_line pool entry =
    line (codes "handler") (decimal entry.from ∷ decimal entry.to ∷ decimal entry.at ∷ caught pool entry.class ∷ [])

-- ---- an instruction

abbrev pub is_wide : Insn → Bool
is_wide (insns.Local op slot wide) = wide
is_wide (insns.Inc slot by wide) = wide
is_wide other = false

-- the name of the opcode, after `wide` where the instruction stands so
abbrev pub name_words : Insn → List Word
name_words insn =
    if is_wide insn then codes "wide" ∷ name_of (opcode_of insn) ∷ [] else name_of (opcode_of insn) ∷ []

-- an index into the constant pool: `#n`
abbrev pub pool_word : ℕ → Word
pool_word index = 35 ∷ decimal index

-- the operands in the order of the fields; a target is the index of an instruction
abbrev pub operand_words : Insn → List Word
operand_words (insns.Plain op) = []
operand_words (insns.Byte n) = signed_decimal n ∷ []
operand_words (insns.Short n) = signed_decimal n ∷ []
operand_words (insns.Ldc index) = pool_word index ∷ []
operand_words (insns.Pool op index) = pool_word index ∷ []
operand_words (insns.Iface index count) = pool_word index ∷ decimal count ∷ []
operand_words (insns.Local op slot wide) = decimal slot ∷ []
operand_words (insns.Inc slot by wide) = decimal slot ∷ signed_decimal by ∷ []
operand_words (insns.Branch op to) = decimal to ∷ []
operand_words (insns.GotoW to) = decimal to ∷ []
operand_words (insns.NewArray kind) = decimal kind ∷ []
operand_words (insns.Table other low targets) = decimal other ∷ signed_decimal low ∷ map decimal targets
operand_words (insns.Lookup other keys targets) = decimal other ∷ (map signed_decimal keys ++ map decimal targets)

-- ---- the method of the library that a call means

abbrev pub is_call : Use → Bool
is_call (uses.Call static of_interface) = true
is_call other = false

-- the class, name and descriptor that a reference to a method tells
abbrev pub reference_of : List Const → Option Const → Option MethodId
reference_of pool (Some (constants.Method class member)) = Some (id_at pool class member)
reference_of pool (Some (constants.IMethod class member)) = Some (id_at pool class member)
reference_of pool other = None

-- the reference of a call
abbrev pub called_by : List Const → Insn → Option MethodId
called_by pool insn = if is_call (use_of insn) then reference_of pool (slice_get pool (index_of insn)) else None

-- the listed method that the class of the reference has: its own, or the nearest above it
abbrev pub listed_for : Listing → MethodId → Option ListedMethod
listed_for listing id = option_and_then (slice_get listing.methods) (nearest listing id.class id.name id.desc)

-- the class that declares it, its name and its descriptor
abbrev pub api_words : Option ListedMethod → List Word
api_words None = []
api_words (Some method) = codes "api" ∷ method.id.class ∷ method.id.name ∷ method.id.desc ∷ []

abbrev pub call_words : Listing → List Const → Insn → List Word
call_words listing pool insn = api_words (option_and_then (listed_for listing) (called_by pool insn))

-- the instruction of this index, which stands at this byte of the code
abbrev pub insn_line : Listing → List Const → ℕ → ℕ → Insn → List ℕ
insn_line listing pool index at insn =
    line (decimal index) (decimal at ∷ (name_words insn ++ (operand_words insn ++ call_words listing pool insn)))
