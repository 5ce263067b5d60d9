use Rattle.std.proofs.Common.{◌≡◌, Some, subst}
use Rattle.std.specs.Prelude.{IfSome}
use Rattle.api_listing.specs.Nearest.{names_of}
use Rattle.bytecode_model.specs.Members.{first_found}
use Rattle.bytecode_model.specs.SearchOrder.{superclasses}
use Rattle.class_index.specs.Index.{found_in}
use Rattle.class_index.proofs.Reaching.{found_first}
use Rattle.class_index.proofs.members.method_of.Goals as goal

pub returns-in-Some : goal.returns-in-Some
returns-in-Some c =
    let look = found_in c.args.declared.now in
    let id = c.args.id.now in
    let classes = c.args.classes.now in
    let above = subst (λ o. IfSome o (λ found. first_found look id (names_of (superclasses classes id.class)) ≡ Some found)) c.in-Some.is c.in_ok-found.ensures in
    found_first look id classes c.in-Some.found above
