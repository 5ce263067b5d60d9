use Rattle.std.proofs.Common.{◌≡◌, ◌∙◌, ◌∷◌, length, ap, sym, arith}
use Rattle.bytecode_model.proofs.Climbing.{pushed}
use Rattle.class_linking.specs.Linking.{classes_with}
use Rattle.class_linking.proofs.linking.add_classes.Goals as goal

pub loop-preserved : goal.loop-preserved
loop-preserved c =
    let files = c.pop_front.new.self.items in
    let methods = c.pop_front-in-loop.new.self.items in
    let file_first = c.in-Some.ensures.items in
    let one_more = ap (λ fs. classes_with fs c.loop.methods.items) file_first ∙ ap (classes_with (c.in-Some.file ∷ files)) c.in-Some-pop_front.ensures.items in
    let split : classes_with c.loop.files.items c.loop.methods.items ≡ c.in_ok-class.class ∷ classes_with files methods = one_more ∙ ap (λ class. class ∷ classes_with files methods) (sym c.in_ok-class.ensures) in
    let less = ap length file_first in
    record {
      so_far = pushed c.loop.classes.items c.push.new.self.items _ _ _ c.in_ok-class.class c.in_ok-push.ensures.items split c.loop.invariant.so_far;
      count = omega (arith, c.loop.invariant.count, less);
    }
