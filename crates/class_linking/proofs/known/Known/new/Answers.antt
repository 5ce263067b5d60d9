use Rattle.std.proofs.Common.{◌≡◌, Option, None, refl, sym, subst}
use Rattle.std.specs.Prelude.{IfSome}
use Rattle.std.proofs.lemmas.List.Elements.{All-push, All-weaker, All-same}
use Rattle.class_linking.specs.declared.known.Named.{Named}
use Rattle.class_linking.specs.Known.{IsNamed}
use Rattle.class_linking.proofs.known.Known.new.Goals as goal

pub loop-preserved : goal.loop-preserved
loop-preserved c =
    All-same (λ place. place ≡ None) _ _ c.in_ok-push.ensures.items (All-push (λ place. place ≡ None) c.loop.places.items None c.loop.invariant refl)

pub returns : goal.returns
returns c = λ files listing pool.
    let good = λ (place : Option Named). IfSome place (IsNamed files listing pool) in
    All-same good _ _ c.from_vec.ensures (All-weaker (λ place. place ≡ None) good (λ place none. subst good (sym none) tt) c.loop.places.items c.loop.invariant)
