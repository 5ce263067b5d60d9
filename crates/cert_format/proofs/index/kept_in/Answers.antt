use Rattle.std.proofs.Common.{sym, ap, ◌∙◌}
use Rattle.std.proofs.lemmas.Slice.Eq.{bytes_eq-Decides}
use Rattle.std.proofs.lemmas.Bool.{ltb-true}
use Rattle.cert_format.specs.Index.{found}
use Rattle.cert_format.proofs.Places.{known_at, one}
use Rattle.cert_format.proofs.index.kept_in.Goals as goal

pub returns-then-eq : goal.returns-then-eq
returns-then-eq c = λ names all.
    let slot = c.in-Some-Some.field-0.now in
    let known = known_at names c.args.slots.now c.slot_of.result slot slot all (ltb-true _ _ (sym c.in-Some-Some.ensures.lookup.0)) c.in-Some-Some.ensures.lookup.1 in
    let same = (bytes_eq-Decides c.in-Some-Some.known.name.now c.args.name.now).0 (sym c.if-eq.ensures) in
    ap (found names) (sym same) ∙ one names slot c.in-Some-Some.known c.in-Some-Some.field-0-is known
