use Rattle.std.proofs.Common.{ℕ, List, Err}
use Rattle.std.proofs.lemmas.Result.{err_from_is_err_and}
use Rattle.mon_store.proofs.Answering.{Asked-since}
use Rattle.mon_store.proofs.read.read_to_end.Goals as goal

pub returns-in_err-count-clause-asked : goal.returns-in_err-count-clause-asked
returns-in_err-count-clause-asked g c =
    let p = err_from_is_err_and c.from_residual.result c.from_residual.ensures.1 in
    let e = c.in_err-count.field-0.0 in
    rw (p.1, p.2) (Asked-since {X = ℕ} {Y = List ℕ} _ _ _ _ _ _ _ _ (Err e) (Err e)
    c.loop-store.invariant.0 c.loop-store.invariant.1 (λ is. cc) (λ is. cc) c.in_err-count.ensures.asked)
