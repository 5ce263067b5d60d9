use Rattle.std.proofs.Common.{◌∙◌, ◌∷◌, Bool, ◌||◌, refl, sym, ap, subst}
use Rattle.std.specs.Prelude.{bytes_eq}
use Rattle.std.proofs.lemmas.Result.{err_from_is_err_and}
use Rattle.api_listing.specs.declared.types.ListedClass.{ListedClass}
use Rattle.api_listing.specs.Listing.{is_known}
use Rattle.bytecode_model.specs.Heads.{head_of}
use Rattle.mon_base.specs.Answer.{Fails}
use Rattle.class_linking.specs.declared.fault.LinkFault.TheVariants as faults
use Rattle.class_linking.specs.ClassConditions.{class_linked}
use Rattle.mon_base.proofs.Lists.{front_is}
use Rattle.bytecode_model.proofs.Lists.{none_left}
use Rattle.class_linking.proofs.ClassLoop.{class_goes_on, class_ends, class_done}
use Rattle.class_linking.proofs.class_conditions.classes_linked.Goals as goal

pub loop-left-init : goal.loop-left-init
loop-left-init c = (c.args.listed.now, c.in_ok-taken.ensures, refl)

pub loop-left-preserved : goal.loop-left-preserved
loop-left-preserved c =
    let split = front_is c.loop-left.left.now c.file-item.result c.in-len1-up.len_at_least c.file-item.is in
    let taken = c.loop-left.invariant.0 in
    let agrees = c.loop-left.invariant.1 in
    let head = c.in_ok-head.head in
    let file = c.file-item.result in
    let known = ap (λ (h : ListedClass). is_known taken h.name) (sym c.in_ok-head.ensures) ∙ sym (agrees head.name) ∙ sym c.contains-is_taken.ensures in (
      head_of file ∷ taken,
      λ q. c.in_ok-add_name.ensures q ∙ ap (λ (b : Bool). bytes_eq head.name q || b) (agrees q) ∙ ap (λ (h : ListedClass). bytes_eq h.name q || is_known taken q) c.in_ok-head.ensures,
      class_goes_on c.args.side c.args.heads.now taken c.loop-left.left.now _ file _ c.contains-is_taken.result split known (ap (λ (h : ListedClass). class_linked c.args.side c.args.heads.now c.contains-is_taken.result h file) (sym c.in_ok-head.ensures) ∙ c.in_ok-class_linked.ensures) c.loop-left.invariant.2,
    )

pub returns-in_err-class_linked : goal.returns-in_err-class_linked
returns-in_err-class_linked c =
    let split = front_is c.loop-left.left.now c.file-item.result c.in-len1-up.len_at_least c.file-item.is in
    let taken = c.loop-left.invariant.0 in
    let agrees = c.loop-left.invariant.1 in
    let head = c.in_ok-head.head in
    let known = ap (λ (h : ListedClass). is_known taken h.name) (sym c.in_ok-head.ensures) ∙ sym (agrees head.name) ∙ sym c.contains-is_taken.ensures in
    let p = err_from_is_err_and c.from_residual-in_err-class_linked.result c.from_residual-in_err-class_linked.ensures.1 in
    rw (p.1, p.2) (class_ends c.in_err-class_linked.field-0.0 c.args.side c.args.heads.now taken c.loop-left.left.now _ c.file-item.result _ c.contains-is_taken.result split known (subst (λ (h : ListedClass). Fails faults.Memory c.in_err-class_linked.field-0.0 (class_linked c.args.side c.args.heads.now c.contains-is_taken.result h c.file-item.result)) c.in_ok-head.ensures c.in_err-class_linked.ensures) c.loop-left.invariant.2)

pub returns : goal.returns
returns c = class_done c.args.side c.args.heads.now c.loop-left.invariant.0 c.loop-left.left.now _ (none_left c.loop-left.left.now c.in_default.len_below) c.loop-left.invariant.2
