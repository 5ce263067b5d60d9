-- The numbers under which faults are printed, and the fields after them: a row for each fault. (docs/REFUSALS.md)
use Rattle.std.specs.Prelude.{ℕ, ℤ, List, [], ◌∷◌, ◌++◌, codes, decimal}
use Rattle.command_outputs.specs.declared.field.Field.TheVariants.{Count, Number, Name}
use Rattle.command_outputs.specs.declared.field.Report.{Report}
use Rattle.command_outputs.specs.Fields.{report, within}
use Rattle.listing_text.specs.declared.fault.ListFault.{ListFault}
use Rattle.listing_text.specs.declared.fault.ListFault.TheVariants as listings
use Rattle.class_linking.specs.declared.fault.LinkFault.{LinkFault}
use Rattle.class_linking.specs.declared.fault.LinkFault.TheVariants as links
use Rattle.cert_checker.specs.declared.fault.CheckFault.{CheckFault}
use Rattle.cert_checker.specs.declared.fault.CheckFault.TheVariants as checks
use Rattle.cert_format.specs.declared.fault.CertForm.{CertForm}
use Rattle.cert_format.specs.declared.fault.CertForm.TheVariants as certificates
use Rattle.class_codec.specs.declared.fault.ClassFault.{ClassFault}
use Rattle.class_codec.specs.declared.fault.ClassFault.TheVariants as classes
use Rattle.conspec_parse.specs.declared.fault.PolicyFault.{PolicyFault}
use Rattle.conspec_parse.specs.declared.fault.PolicyFault.TheVariants as policies
use Rattle.event_record.specs.declared.fault.RecordFault.{RecordFault}
use Rattle.event_record.specs.declared.fault.RecordFault.TheVariants as records
use Rattle.insn_codec.specs.declared.fault.CodeFault.{CodeFault}
use Rattle.insn_codec.specs.declared.fault.CodeFault.TheVariants as instructions
use Rattle.offset_patch.specs.declared.fault.Size.{Size}
use Rattle.offset_patch.specs.declared.fault.Size.TheVariants as sizes
use Rattle.command_inputs.specs.declared.fault.InputFault.{InputFault}
use Rattle.command_inputs.specs.declared.fault.InputFault.TheVariants as inputs

-- want of memory, which is never printed
abbrev pub no_report : Report
no_report = report 0 []

-- ---- files

abbrev pub class_report : ClassFault → Report
class_report classes.Magic = report 101 []
class_report (classes.Version major) = report 102 (Count major ∷ [])
class_report (classes.Short at) = report 103 (Count at ∷ [])
class_report (classes.Tail at) = report 104 (Count at ∷ [])
class_report (classes.Tag at tag) = report 105 (Count at ∷ Count tag ∷ [])
class_report (classes.Index at) = report 106 (Count at ∷ [])
class_report (classes.TooLong len) = report 107 (Count len ∷ [])
class_report classes.Memory = no_report

abbrev pub listing_report : ListFault → Report
listing_report (listings.Line line) = report 161 (Count line ∷ [])
listing_report (listings.Twice line) = report 162 (Count line ∷ [])
listing_report (listings.NoSuper line) = report 163 (Count line ∷ [])
listing_report (listings.TooMany count) = report 164 (Count count ∷ [])
listing_report listings.Memory = no_report

abbrev pub policy_report : PolicyFault → Report
policy_report (policies.Syntax at) = report 181 (Count at ∷ [])
policy_report (policies.Name at) = report 182 (Count at ∷ [])
policy_report (policies.Kind at) = report 183 (Count at ∷ [])
policy_report (policies.Range at) = report 184 (Count at ∷ [])
policy_report (policies.NoMethod at) = report 185 (Count at ∷ [])
policy_report (policies.Twice at) = report 186 (Count at ∷ [])
policy_report (policies.Limit at) = report 187 (Count at ∷ [])
policy_report (policies.Builtin at) = report 188 (Count at ∷ [])
policy_report policies.Memory = no_report

abbrev pub certificate_report : CertForm → Report
certificate_report (certificates.Form at) = report 241 (Count at ∷ [])
certificate_report certificates.Memory = no_report

abbrev pub record_report : RecordFault → Report
record_report (records.Line line) = report 261 (Count line ∷ [])
record_report records.Memory = no_report

abbrev pub input_report : InputFault → Report
input_report (inputs.TooLong len) = report 107 (Count len ∷ [])
input_report (inputs.Class fault) = class_report fault
input_report (inputs.Listing fault) = listing_report fault
input_report (inputs.Policy fault) = policy_report fault
input_report (inputs.Certificate fault) = certificate_report fault
input_report (inputs.Record fault) = record_report fault
input_report inputs.Memory = no_report

-- ---- programs

abbrev pub code_report : CodeFault → Report
code_report (instructions.Opcode at op) = report 121 (Count at ∷ Count op ∷ [])
code_report (instructions.Cut at) = report 122 (Count at ∷ [])
code_report (instructions.Target at) = report 123 (Count at ∷ [])
code_report (instructions.LeftOut at op) = report 124 (Count at ∷ Count op ∷ [])
code_report (instructions.Form at) = report 125 (Count at ∷ [])
code_report (instructions.End at) = report 126 (Count at ∷ [])
code_report instructions.Memory = no_report

abbrev pub link_report : LinkFault → Report
link_report links.NoMain = report 141 []
link_report (links.Twice class) = report 142 (Name class ∷ [])
link_report (links.Unresolved class name) = report 143 (Name class ∷ Name name ∷ [])
link_report (links.SuperLeftOut class) = report 144 (Name class ∷ [])
link_report (links.NameTaken class) = report 145 (Name class ∷ [])
link_report (links.Method class name) = report 146 (Name class ∷ Name name ∷ [])
link_report (links.TooMany count) = report 147 (Count count ∷ [])
link_report (links.Code class method fault) = within (code_report fault) 148 (Name class ∷ Count method ∷ [])
link_report (links.Overrides class name) = report 149 (Name class ∷ Name name ∷ [])
link_report (links.Name class) = report 150 (Name class ∷ [])
link_report (links.Operand class method at) = report 151 (Name class ∷ Count method ∷ Count at ∷ [])
link_report links.Memory = no_report

-- the bytes that the class files have in all
abbrev pub total_report : ℕ → Report
total_report len = report 152 (Count len ∷ [])

-- an instruction at which no types fit
abbrev pub untyped_report : List ℕ → ℕ → ℕ → Report
untyped_report class method at = report 201 (Name class ∷ Count method ∷ Count at ∷ [])

-- ---- answers that are no

-- the first test of a certificate that fails, in the class of this name where it is of one
abbrev pub check_report : CheckFault → List ℕ → Report
check_report (checks.Typing class method at rule) name = report 202 (Name name ∷ Count method ∷ Count at ∷ Count rule ∷ [])
check_report (checks.Shape class method) name = report 242 (Name name ∷ Count method ∷ [])
check_report (checks.StateClass field) name = report 244 (Count field ∷ [])
check_report (checks.Local class method at rule) name = report 243 (Name name ∷ Count method ∷ Count at ∷ Count rule ∷ [])

-- the first event of a run that is refused
abbrev pub event_report : ℕ → Report
event_report index = report 191 (Count index ∷ [])

-- M0, M1, M2 or M3
abbrev pub condition_name : ℕ → List ℕ
condition_name condition = codes "M" ++ decimal condition

-- a condition of race-freeness that is broken, with a state and events that break it
abbrev pub race_report : ℕ → List ℕ → Report
race_report condition example = report 245 (Name (condition_name condition) ∷ Name example ∷ [])

-- too many points of two clauses, by their places in the policy
abbrev pub cells_report : ℕ → ℕ → ℕ → Report
cells_report first second count = report 222 (Count first ∷ Count second ∷ Count count ∷ [])

-- the first step of a run that is not enabled
abbrev pub step_report : ℕ → Report
step_report index = report 301 (Count index ∷ [])

-- the first step of a run whose event is refused, so that it is not lifted
abbrev pub disobeying_report : ℕ → Report
disobeying_report index = report 281 (Count index ∷ [])

-- the first step of a run at which calls overlap, so that it is not lifted
abbrev pub overlapping_report : ℕ → Report
overlapping_report index = report 282 (Count index ∷ [])

-- ---- sizes

abbrev pub size_name : Size → List ℕ
size_name sizes.Stack = codes "stack"
size_name sizes.Locals = codes "locals"
size_name sizes.Entries = codes "entries"
size_name sizes.Pool = codes "pool"
size_name sizes.Length = codes "length"
size_name sizes.Branch = codes "branch"

-- a size of a method, by its class and its index there
abbrev pub size_report : List ℕ → ℕ → Size → ℤ → Report
size_report class method what value = report 223 (Name class ∷ Count method ∷ Name (size_name what) ∷ Number value ∷ [])

-- the bytes of a certificate
abbrev pub length_report : ℕ → Report
length_report value = report 223 (Name (codes "-") ∷ Count 0 ∷ Name (codes "certificate") ∷ Count value ∷ [])
