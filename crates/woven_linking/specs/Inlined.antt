-- A program with the blocks of a policy, and where its instructions come from. (docs/BLOCKS.md)
use Rattle.std.specs.Prelude.{◌≡◌, List, Ok}
use Rattle.std.specs.List.{AllByRecursion}
use Rattle.mon_base.specs.Reading.{◌>>=◌}
use Rattle.block_template.specs.Blocks.{plan_of}
use Rattle.bytecode_model.specs.declared.program.LinkedClass.{LinkedClass}
use Rattle.bytecode_model.specs.declared.program.Program.{Program}
use Rattle.cert_format.specs.declared.certificate.Mode.{Mode}
use Rattle.class_codec.specs.Fits.{IsEncodable}
use Rattle.conspec_automaton.specs.declared.policy.Policy.{Policy}
use Rattle.offset_patch.specs.Fault.{Fitting}
use Rattle.class_weaving.specs.declared.woven.Woven.{Woven}
use Rattle.class_weaving.specs.Woven.{woven}
use Rattle.woven_linking.specs.declared.inlining.Inlined.{Inlined}
use Rattle.woven_linking.specs.Program.{program_with}

-- the program that the woven files link to, and where its instructions come from
abbrev pub as_program : Program → Woven → Mode → Inlined
as_program program made mode = record { program = program_with program made.files made.methods; mode = mode; origins = made.origins }

-- the same of a program that is woven, with the classes that it was made of; or the first size that does not fit
abbrev pub inlined : Program → Policy → Mode → Fitting (Inlined × List LinkedClass)
inlined program policy mode = woven program (plan_of policy mode) policy.vars >>= λ made. Ok (as_program program made mode, program.classes)

-- the same beside the program, whose classes stay
abbrev pub inlined_beside : Program → Policy → Mode → Fitting Inlined
inlined_beside program policy mode = woven program (plan_of policy mode) policy.vars >>= λ made. Ok (as_program program made mode)

-- What was made is the program that woven files link to, which can be written.
pub record IsOfFiles (program : Program) (policy : Policy) (mode : Mode) (made : Inlined × List LinkedClass) : Type 0 where
  pub files : Woven
  pub woven : woven program (plan_of policy mode) policy.vars ≡ Ok files
  pub is : made ≡ (as_program program files mode, program.classes)
  pub encodes : AllByRecursion IsEncodable files.files

-- So it is of what was made beside the program.
pub record IsMadeBeside (program : Program) (policy : Policy) (mode : Mode) (made : Inlined) : Type 0 where
  pub files : Woven
  pub woven : woven program (plan_of policy mode) policy.vars ≡ Ok files
  pub is : made ≡ as_program program files mode
  pub encodes : AllByRecursion IsEncodable files.files
