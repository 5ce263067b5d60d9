use Rattle.std.proofs.Common.{◌≡◌, ◌∙◌, List, Option, Some, None, ap, sym}
use Rattle.std.specs.Prelude.{slice_get, option_copied, option_and_then}
use Rattle.bytecode_model.specs.declared.program.LinkedClass.{LinkedClass}
use Rattle.bytecode_model.specs.declared.program.Method.{Method}
use Rattle.mon_base.proofs.Lists.{got}
use Rattle.guest_threads.proofs.frames.method_at.Goals as goal

pub returns-in_default : goal.returns-in_default
returns-in_default c =
    let none : slice_get c.args.program.now.classes c.args.class ≡ None =
    ap (λ (cs : List LinkedClass). slice_get cs c.args.class) (sym c.as_slice.ensures)
    ∙ sym (got c.get.result c.as_slice.result.now c.args.class c.get.ensures.lookup.3 c.get.ensures.lookup.1) ∙ ap option_copied c.in_default.is in
    sym (ap (λ (o : Option LinkedClass). option_and_then (λ (of : LinkedClass). slice_get of.methods c.args.index) o) none)

pub returns : goal.returns
returns c =
    let there : slice_get c.args.program.now.classes c.args.class ≡ Some c.in-Some.of.now =
    ap (λ (cs : List LinkedClass). slice_get cs c.args.class) (sym c.as_slice.ensures)
    ∙ sym (got c.get.result c.as_slice.result.now c.args.class c.get.ensures.lookup.3 c.get.ensures.lookup.1) ∙ ap option_copied c.in-Some.is in
    got c.get-2.result c.as_slice-2.result.now c.args.index c.get-2.ensures.lookup.3 c.get-2.ensures.lookup.1
    ∙ ap (λ (ms : List Method). slice_get ms c.args.index) c.as_slice-2.ensures
    ∙ sym (ap (λ (o : Option LinkedClass). option_and_then (λ (of : LinkedClass). slice_get of.methods c.args.index) o) there)
