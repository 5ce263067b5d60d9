use Rattle.std.proofs.Common.{sym, subst}
use Rattle.cert_format.specs.Index.{ArePlaced}
use Rattle.cert_format.proofs.Places.{none_known}
use Rattle.cert_format.proofs.index.no_slots.Goals as goal

pub loop-init : goal.loop-init
loop-init c = λ names. subst (ArePlaced names) (sym c.in_ok-slots.ensures) tt

pub loop-preserved : goal.loop-preserved
loop-preserved c = λ names. none_known names c.loop.slots c.push.new.self c.in_ok-push.ensures.ok (c.loop.invariant names)

pub returns : goal.returns
returns c = c.loop.invariant
