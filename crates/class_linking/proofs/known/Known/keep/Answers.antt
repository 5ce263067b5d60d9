use Rattle.std.proofs.Common.{Option, Some, sym, subst}
use Rattle.std.specs.Prelude.{IfSome}
use Rattle.std.proofs.lemmas.List.Elements.{All-set, All-same}
use Rattle.class_linking.specs.declared.known.Named.{Named}
use Rattle.class_linking.specs.Known.{IsNamed, AreRemembered}
use Rattle.class_linking.proofs.known.Known.keep.Goals as goal

pub returns-then-place-len : goal.returns-then-place-len
returns-then-place-len c = λ files listing pool known named.
    let good = λ (place : Option Named). IfSome place (IsNamed files listing pool) in
    let before = subst (AreRemembered files listing pool) (sym c.self.view_is) known in
    All-same good _ _ c.replace.ensures.is (All-set good c.self.inside.places c.place_of-place.result (Some c.args.named) named before)
