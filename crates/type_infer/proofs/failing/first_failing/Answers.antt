use Rattle.std.proofs.Common.{◌≡◌, ℕ, ◌+◌, subst, arith}
use Rattle.type_infer.specs.Untyped.{CannotBeMet}
use Rattle.type_infer.proofs.failing.first_failing.Goals as goal

pub returns-clause-unmet : goal.returns-clause-unmet
returns-clause-unmet c ready none =
    let scope = c.args.body.now in
    let apart = c.halving.invariant.apart in
    let next : c.halving.unmet ≡ c.halving.met + 1 = omega arith in
    subst (λ (n : ℕ). CannotBeMet scope.program scope.own scope.class scope.method n) next (c.halving.invariant.unmet ready none)
