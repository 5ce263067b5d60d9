use Rattle.std.proofs.Common.{◌≡◌, Some, ◌∙◌, sym, subst}
use Rattle.std.specs.Prelude.{IfSome}
use Rattle.api_listing.specs.Nearest.{names_of}
use Rattle.bytecode_model.specs.Members.{first_found}
use Rattle.bytecode_model.specs.SearchOrder.{superclasses}
use Rattle.class_index.specs.Index.{found_in}
use Rattle.class_index.proofs.FieldSearch.{found_above_interfaces}
use Rattle.class_index.proofs.members.field_of.Goals as goal

pub returns-in-Some : goal.returns-in-Some
returns-in-Some c =
    let look = found_in c.args.declared.now in
    let id = c.args.id.now in
    let classes = c.args.classes.now in
    let above = subst (λ o. IfSome o (λ found. first_found look id (names_of (superclasses classes id.class)) ≡ Some found)) c.in-Some.is c.in_ok-found.ensures in
    let aside = c.requires.of_interfaces id (sym c.in_ok-may_be_of_interface.ensures ∙ c.if-not-branch.true) in
    sym above ∙ sym (found_above_interfaces look id classes id.class aside)
