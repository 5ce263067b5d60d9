use Rattle.std.proofs.Common.{◌∙◌, refl, subst}
use Rattle.std.proofs.lemmas.Result.{err_from_is_err_and}
use Rattle.mon_base.specs.Answer.{Fails}
use Rattle.class_linking.specs.ClassConditions.{classes_linked}
use Rattle.class_linking.specs.declared.fault.LinkFault.TheVariants as faults
use Rattle.class_linking.proofs.Whole.{asked, ends_classes, ends_members}
use Rattle.class_linking.proofs.linking.members_under.Goals as goal

pub returns-in_err-classes_linked-clause-fails : goal.returns-in_err-classes_linked-clause-fails
returns-in_err-classes_linked-clause-fails c =
    let files = c.args.files.now in
    let listing = c.args.listing.now in
    let side = c.args.side in
    let e = c.in_err-classes_linked.field-0.0 in
    let told = subst (λ own. Fails faults.Memory e (classes_linked side c.args.heads.now own files)) c.as_slice.ensures c.in_err-classes_linked.ensures in
    let fails = subst (λ hs. Fails faults.Memory e (classes_linked side hs listing.classes files)) c.requires.heads told in
    let p = err_from_is_err_and c.from_residual.result c.from_residual.ensures.1 in
    rw (p.1, p.2) (λ main. ends_classes files listing main side e fails)

pub returns-in_err-members-clause-fails : goal.returns-in_err-members-clause-fails
returns-in_err-members-clause-fails c =
    let files = c.args.files.now in
    let listing = c.args.listing.now in
    let side = c.args.side in
    let e = c.in_err-members.field-0.0 in
    let sound = asked side files listing.classes _ _ _ _ _ c.requires.heads refl refl c.as_slice.ensures refl c.in_ok-classes_linked.ensures in
    let p = err_from_is_err_and c.from_residual-in_err-members.result c.from_residual-in_err-members.ensures.1 in
    rw (p.1, p.2) (λ main. ends_members files listing main side e sound c.in_err-members.ensures.answers)

pub returns-clause-classes : goal.returns-clause-classes
returns-clause-classes c = asked c.args.side c.args.files.now c.args.listing.now.classes _ _ _ _ _ c.requires.heads refl refl c.as_slice.ensures refl c.in_ok-classes_linked.ensures
