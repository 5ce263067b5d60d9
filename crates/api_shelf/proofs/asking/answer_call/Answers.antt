use Rattle.std.proofs.Common.{◌≡◌, subst, ap}
use Rattle.std.proofs.lemmas.List.{append-nil}
use Rattle.api_shelf.specs.declared.asking.Asked.TheVariants.{Refused}
use Rattle.api_shelf.specs.declared.device.DeviceFault.TheVariants.{Failed}
use Rattle.api_shelf.specs.Shelf.{AllTell, views}
use Rattle.api_shelf.specs.Telling.{Log}
use Rattle.api_shelf.proofs.asking.answer_call.Goals as goal

pub returns-in-Refused-clause-refused : goal.returns-in-Refused-clause-refused
returns-in-Refused-clause-refused g c = λ pairs tells.
    subst (λ (ps : Log). AllTell ps (views g.D.ApiDevice.told g.D.ApiDevice.faults c.ask_first.new.slots)) (append-nil pairs) (c.in-Refused.ensures.tells pairs tells)

pub returns-in-Refused-clause-failed : goal.returns-in-Refused-clause-failed
returns-in-Refused-clause-failed g c = λ is.
    let same : c.in-Refused.fault ≡ Failed = cc in
    c.in-Refused.ensures.failed (ap Refused same)
