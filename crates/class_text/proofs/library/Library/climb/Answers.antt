use Rattle.std.proofs.Common.{◌≡◌, ◌∙◌, ◌++◌, ◌∷◌, [], Some, length, sym, ap, arith}
use Rattle.api_listing.specs.declared.types.Listing.{Listing}
use Rattle.api_listing.specs.Nearest.{class_named, names_of, interfaces_of}
use Rattle.bytecode_model.proofs.Climbing.{upwards_some, pushed, appended}
use Rattle.class_text.proofs.library.Library.climb.Goals as goal

pub loop-preserved : goal.loop-preserved
loop-preserved c =
    let classes = c.args.self.now.classes in
    let class = c.in-Some.class.now in
    let found : class_named classes c.loop.at.now ≡ Some class = sym c.in-Some.ensures in
    let count = ap (λ (l : Listing). length l.classes) c.self.view_is in
    let up = upwards_some (length classes) c.loop.counter classes c.loop.at.now class (omega (arith, c.loop-test.true, c.len-end.ensures, count)) found in
    record {
      named = pushed c.loop.names c.push.new.self _ _ _ class.name (c.in_ok-push.ensures.ok ∙ ap (λ n. c.loop.names ++ n ∷ []) c.in_ok-own.ensures) (ap names_of up) c.loop.invariant.named;
      above = appended c.loop.interfaces c.add_names.new.names class.interfaces _ _ _ (c.in_ok-add_names.ensures ∙ ap (λ ns. c.loop.interfaces ++ ns) c.as_slice.ensures) (ap interfaces_of up) c.loop.invariant.above;
    }
