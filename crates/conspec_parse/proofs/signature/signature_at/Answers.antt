use Rattle.std.proofs.lemmas.Result.{err_from_is_err_and}
use Rattle.conspec_parse.proofs.InBrackets.{no_brackets}
use Rattle.conspec_parse.proofs.signature.signature_at.Goals as goal

pub returns-in_err-rest : goal.returns-in_err-rest
returns-in_err-rest c =
    let p = err_from_is_err_and c.from_residual-in_err-rest.result c.from_residual-in_err-rest.ensures.1 in
    rw (p.1, p.2) (λ told. no_brackets c.args.judged c.args.vars.now c.args.tokens.now c.in_ok-path.opened.now c.in_ok-path.path c.in_err-rest.field-0.0 c.in_ok-path.ensures (c.in_err-rest.ensures told))
