-- A method of which what stands in brackets is read by itself.
use Rattle.std.proofs.Common.{◌≡◌, Bool, List, Ok, Err, arith}
use Rattle.std.proofs.lemmas.Grind.{common_steps}
use Rattle.conspec_tokens.specs.declared.token.Token.{Token}
use Rattle.conspec_tree.specs.declared.types.Var.{Var}
use Rattle.conspec_parse.specs.declared.fault.PolicyFault.{PolicyFault}
use Rattle.conspec_parse.specs.declared.signature.Path.{Path}
use Rattle.conspec_parse.specs.Methods.{path_at, bracketed, signature_at}

pub no_brackets : (judged : Bool) (vars : List Var) (tokens opened : List Token) (path : Path) (e : PolicyFault)
    → path_at judged tokens ≡ Ok (path, opened) → bracketed judged vars opened ≡ Err e → signature_at judged vars tokens ≡ Err e
unfolding signature_at bracketed
no_brackets judged vars tokens opened path e named failed = grind (arith, common_steps)
