use Rattle.std.proofs.Common.{◌≡◌, true, refl, rules}
use Rattle.std.specs.Prelude.{is_some}
use Rattle.conspec_parse.specs.Clauses.{given_result_at}
use Rattle.conspec_parse.proofs.clause.given_result_at.Goals as goal

pub returns : goal.returns
unfolding given_result_at
returns c =
    let valued : is_some c.args.kind ≡ true = search rules in
    rw (c.in_ok-name.ensures, valued, ← c.if-is_variable.ensures, ← c.if-not-is_short.ensures, c.in_ok-rest.ensures) refl
