-- How calls answer what weaving gives. (docs/BLOCKS.md)
use Rattle.std.specs.Prelude.{◌<◌, ◌^◌, ⊤, ℕ, pos, nat_le, List, Option, Some, None, Result, Ok, Err}
use Rattle.mon_base.specs.Reading.{need}
use Rattle.insn_codec.specs.declared.fault.CodeOverflow.{CodeOverflow}
use Rattle.insn_codec.specs.declared.fault.CodeOverflow.TheVariants as codes
use Rattle.offset_patch.specs.declared.fault.Size.{Size}
use Rattle.offset_patch.specs.declared.fault.Size.TheVariants as sizes
use Rattle.offset_patch.specs.declared.fault.SpliceFault.{SpliceFault}
use Rattle.offset_patch.specs.declared.fault.SpliceFault.TheVariants as faults

-- what weaving gives: a value, or the first size that does not fit
abbrev pub Fitting : Type 0 → Type 0
Fitting X = Result X SpliceFault

-- the fault, if it is one
abbrev pub fault_of : {X : Type 0} → Fitting X → Option SpliceFault
fault_of (Ok x) = None
fault_of (Err fault) = Some fault

-- a size of a method is at most 65,535
abbrev pub fitted : List ℕ → ℕ → Size → ℕ → Fitting (Unit {0})
fitted class method what value = need (nat_le value 65535) (faults.Overflow class method what (pos value))

-- what writing the code of a method gives
abbrev pub code_fitted : {X : Type 0} → List ℕ → ℕ → Result X CodeOverflow → Fitting X
code_fitted class method (Ok x) = Ok x
code_fitted class method (Err (codes.Length value)) = Err (faults.Overflow class method sizes.Length (pos value))
code_fitted class method (Err (codes.Branch value)) = Err (faults.Overflow class method sizes.Branch value)
code_fitted class method (Err codes.Memory) = Err faults.Memory

-- a length that a number of 64 bits with a sign counts
abbrev pub IsCounted : CodeOverflow → Type 0
IsCounted (codes.Length value) = value < 2 ^ 63
IsCounted other = ⊤
