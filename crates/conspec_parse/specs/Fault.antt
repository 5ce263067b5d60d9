-- What a text is read as, or why it is no policy. (docs/POLICIES.md)
use Rattle.std.specs.Prelude.{Result}
use Rattle.conspec_parse.specs.declared.fault.PolicyFault.{PolicyFault}

-- what is read of a policy, or why it is none
abbrev pub Judged : Type 0 → Type 0
Judged X = Result X PolicyFault
