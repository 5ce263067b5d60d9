use Rattle.std.proofs.Common.{◌∙◌, sym, ap, length, map, arith}
use Rattle.std.proofs.lemmas.Grind.{common_steps, elements}
use Rattle.cert_format.proofs.Places.{is_new, length-now}
use Rattle.cert_format.proofs.index.Index.place.Goals as goal

pub returns-in-None : goal.returns-in-None
returns-in-None c =
    let names = c.self.inside.names.items in
    let new = is_new (map (λ name. name.now) names) c.args.name.now (sym (c.self.invariant.0 c.args.name.now) ∙ sym c.in-None.ensures.value) in
    rw (← c.self.view_is) (ap length c.as_slice-names.ensures.value ∙ sym (length-now names) ∙ sym new)

pub returns-in-Some : goal.returns-in-Some
returns-in-Some c = grind (arith, elements)

pub returns-in-Some-get : goal.returns-in-Some-get
returns-in-Some-get c = grind (arith, common_steps)
