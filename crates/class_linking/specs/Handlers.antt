-- The exception table of a method, by indices of instructions. (The Java Virtual Machine Specification, section 4.7.3.)
use Rattle.std.specs.Prelude.{ℕ, ◌+◌, ◌≤◌, true, ◌==◌, if◌then◌else◌, List, [], ◌∷◌, Option, Some, None, ok_or, Ok, ⊤}
use Rattle.mon_base.specs.Reading.{◌>>=◌}
use Rattle.class_codec.specs.declared.tree.Const.{Const}
use Rattle.class_codec.specs.declared.tree.ClassFile.{ClassFile}
use Rattle.class_codec.specs.declared.tree.TableEntry.{TableEntry}
use Rattle.api_listing.specs.declared.types.Listing.{Listing}
use Rattle.class_linking.specs.declared.fault.LinkFault.TheVariants as faults
use Rattle.bytecode_model.specs.declared.program.Handler.{Handler}
use Rattle.bytecode_model.specs.declared.program.Target.{Target}
use Rattle.class_linking.specs.Fault.{Linked, linked_from}
use Rattle.bytecode_model.specs.Heads.{class_at}
use Rattle.class_linking.specs.Operands.{class_linked, told_at}
use Rattle.bytecode_model.specs.Operands.{known_in}
use Rattle.bytecode_model.specs.Starts.{index_at, insn_at}

-- the class that is caught, or nothing for any
abbrev pub caught : List ClassFile → Listing → List ℕ → List Const → ℕ → ℕ → ℕ → Linked (Option (List ℕ))
caught files listing class pool method at index =
    if index == 0 then Ok None
    else (told_at class method at (class_linked true (known_in files listing) (class_at pool index)) >>= λ (t : Target). Ok (Some (class_at pool index)))

-- an entry of the exception table of a method whose instructions begin at these bytes; it is told after them
abbrev pub handler_linked : List ClassFile → Listing → List ℕ → List Const → ℕ → ℕ → List ℕ → TableEntry → Linked Handler
handler_linked files listing class pool method end starts entry = do
  from ← ok_or (insn_at starts entry.from) (faults.Operand class method end)
  to ← ok_or (index_at starts entry.to) (faults.Operand class method end)
  at ← ok_or (insn_at starts entry.at) (faults.Operand class method end)
  catches ← caught files listing class pool method end entry.class
  Ok (record { from = from; to = to; at = at; class = catches })

abbrev pub handlers_linked : List ClassFile → Listing → List ℕ → List Const → ℕ → ℕ → List ℕ → List TableEntry → Linked (List Handler)
handlers_linked files listing class pool method end starts entries = linked_from (λ at. handler_linked files listing class pool method end starts) 0 entries

-- ---- bytes that rise

-- Each number is above the one before it, and the first is no lower than this one.
abbrev pub RisesFrom : ℕ → List ℕ → Type 0
RisesFrom low [] = ⊤
RisesFrom low (n ∷ ns) = (low ≤ n) × RisesFrom (n + 1) ns
