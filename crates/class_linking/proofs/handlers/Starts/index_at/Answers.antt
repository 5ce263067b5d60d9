use Rattle.std.proofs.Common.{◌≡◌, ◌∙◌, Ok, Err, sym, ap, subst, arith}
use Rattle.bytecode_model.specs.Starts.{index_at}
use Rattle.class_linking.specs.Handlers.{RisesFrom}
use Rattle.class_linking.proofs.Starting.{halved}
use Rattle.class_linking.proofs.handlers.Starts.index_at.Goals as goal

pub overflow_cast-result : goal.overflow_cast-result
overflow_cast-result c =
    let up = subst (RisesFrom 0) (sym c.as_slice.ensures) c.self.invariant in
    let is = halved c.as_slice.result.now c.from.result (Ok c.in-Ok.place) up c.in-Ok.ensures.position in
    let same : c.from.result ≡ c.args.byte = omega arith in
    omega (arith, is.1, same)

pub returns-in-Ok : goal.returns-in-Ok
returns-in-Ok c =
    let up = subst (RisesFrom 0) (sym c.as_slice.ensures) c.self.invariant in
    let is = halved c.as_slice.result.now c.from.result (Ok c.in-Ok.place) up c.in-Ok.ensures.position in
    let same : c.from.result ≡ c.args.byte = omega arith in
    sym is.0 ∙ ap (index_at c.as_slice.result.now) same ∙ ap (λ starts. index_at starts c.args.byte) (c.as_slice.ensures ∙ c.self.view_is)

pub returns-in-Err : goal.returns-in-Err
returns-in-Err c =
    let up = subst (RisesFrom 0) (sym c.as_slice.ensures) c.self.invariant in
    let none = halved c.as_slice.result.now c.from.result (Err c.in-Err.field-0) up c.in-Err.ensures.position in
    let same : c.from.result ≡ c.args.byte = omega arith in
    sym none ∙ ap (index_at c.as_slice.result.now) same ∙ ap (λ starts. index_at starts c.args.byte) (c.as_slice.ensures ∙ c.self.view_is)
