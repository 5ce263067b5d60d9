use Rattle.std.proofs.Common.{◌≤◌, List, length, arith}
use Rattle.std.specs.Prelude.{IsTrue}
use Rattle.cert_format.specs.declared.typing.VType.{VType}
use Rattle.bytecode_model.specs.Rules.{Local}
use Rattle.type_infer.proofs.Lists.{if_ok}
use Rattle.type_infer.proofs.leaving.locals_left.Goals as goal

pub returns-clause-within : goal.returns-clause-within
returns-clause-within c =
    let place = c.args.place.now in
    let frame = c.args.told.now in
    let within : IsTrue (Local place frame) → length c.in_ok-locals.locals ≤ place.method.max_locals = rw c.frame-frame.ensures at c.in_ok-locals.ensures.within in
    if_ok c.new.result (λ (locals : List VType). length locals ≤ length c.in_ok-locals.locals)
    (λ (locals : List VType). IsTrue (Local place frame) → length locals ≤ place.method.max_locals) (λ locals few met. omega (arith, few, within met)) c.new.ensures.within
