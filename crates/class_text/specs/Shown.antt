-- The text of class files, or the first code that is of no form. (docs/COMMANDS.md)
use Rattle.std.specs.Prelude.{◌≡◌, ℕ, ◌+◌, List, [], ◌∷◌, ◌++◌, Option, Some, None, Result, Ok, Err, slice_get}
use Rattle.std.specs.List.{flat_map}
use Rattle.mon_base.specs.Reading.{◌>>=◌}
use Rattle.class_codec.specs.declared.tree.Const.{Const}
use Rattle.class_codec.specs.declared.tree.Code.{Code}
use Rattle.class_codec.specs.declared.tree.Member.{Member}
use Rattle.class_codec.specs.declared.tree.ClassFile.{ClassFile}
use Rattle.insn_codec.specs.declared.insn.Insn.{Insn}
use Rattle.insn_codec.specs.declared.fault.CodeFault.{CodeFault}
use Rattle.insn_codec.specs.declared.fault.CodeFault.TheVariants as codes
use Rattle.insn_codec.specs.Reading.{code_of}
use Rattle.insn_codec.specs.Encoding.{starts_of}
use Rattle.api_listing.specs.declared.types.Listing.{Listing}
use Rattle.bytecode_model.specs.Heads.{class_at}
use Rattle.bytecode_model.specs.Conditions.{codes_of}
use Rattle.class_text.specs.declared.fault.ShowFault.{ShowFault}
use Rattle.mon_base.specs.Answer.{Fails}
use Rattle.class_text.specs.declared.fault.ShowFault.TheVariants as faults
use Rattle.class_text.specs.Lines.{class_line, method_line, insn_line, handler_line}

abbrev pub Shown : Type 0
Shown = Result (List ℕ) ShowFault

-- the text of each item after that of the one before it; the first item has this number
abbrev pub texts_from : {X : Type 0} → (ℕ → X → Shown) → ℕ → List X → Shown
texts_from one at [] = Ok []
texts_from one at (x ∷ xs) = do
  first ← one at x
  others ← texts_from one (at + 1) xs
  Ok (first ++ others)

-- ---- a method

-- the instructions, of which the first has this index, with the byte where each begins
abbrev pub insn_lines : Listing → List Const → ℕ → List ℕ → List Insn → List ℕ
insn_lines listing pool index [] insns = []
insn_lines listing pool index (at ∷ starts) [] = []
insn_lines listing pool index (at ∷ starts) (insn ∷ insns) =
    insn_line listing pool index at insn ++ insn_lines listing pool (index + 1) starts insns

abbrev pub handler_lines : List Const → Code → List ℕ
handler_lines pool code = flat_map (handler_line pool) code.table

abbrev pub code_told : List ℕ → ℕ → CodeFault → ShowFault
code_told class method codes.Memory = faults.Memory
code_told class method fault = faults.Code class method fault

abbrev pub read_of : List ℕ → ℕ → Result (List Insn) CodeFault → Result (List Insn) ShowFault
read_of class method (Ok insns) = Ok insns
read_of class method (Err fault) = Err (code_told class method fault)

-- the method of this index, with its code; a method without one has room for nothing
abbrev pub body_shown : Listing → ClassFile → ℕ → Member → Option Code → Shown
body_shown listing file method member None = Ok (method_line file.pool member 0 0)
body_shown listing file method member (Some code) = do
  insns ← read_of (class_at file.pool file.this_class) method (code_of code.code)
  Ok (method_line file.pool member code.max_stack code.max_locals ++ (insn_lines listing file.pool 0 (starts_of insns) insns ++ handler_lines file.pool code))

-- Of several codes of a method the first counts.
abbrev pub method_shown : Listing → ClassFile → ℕ → Member → Shown
method_shown listing file method member = body_shown listing file method member (slice_get (codes_of member) 0)

-- ---- classes

abbrev pub class_shown : Listing → ClassFile → Shown
class_shown listing file = do
  methods ← texts_from (method_shown listing file) 0 file.methods
  Ok (class_line file ++ methods)

abbrev pub shown : Listing → List ClassFile → Shown
shown listing files = texts_from (λ at. class_shown listing) 0 files

-- ---- what calls answer

-- a text before another
abbrev pub with_front : List ℕ → Shown → Shown
with_front front answer = answer >>= λ text. Ok (front ++ text)

-- A call appended the text, unless memory ran out.
abbrev pub Appends : Result (Unit {0}) ShowFault → List ℕ → List ℕ → Shown → Type 0
Appends (Ok done) old new answer = with_front old answer ≡ Ok new
Appends (Err fault) old new answer = Fails faults.Memory fault answer
