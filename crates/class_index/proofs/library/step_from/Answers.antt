use Rattle.std.proofs.Common.{◌≡◌, ◌∙◌, true, sym, ap}
use Rattle.std.specs.List.{list_all}
use Rattle.api_listing.specs.Seen.{has_name}
use Rattle.class_index.proofs.Sharing.{step_up}
use Rattle.class_index.proofs.library.step_from.Goals as goal

pub returns-then-not-may_own : goal.returns-then-not-may_own
returns-then-not-may_own c =
    let memberless = c.args.memberless.now in
    let class = c.in_ok-class.class.now in
    let plain : list_all (has_name memberless) class.interfaces ≡ true = ap (list_all (has_name memberless)) (sym c.as_slice.ensures) ∙ sym c.are_among.ensures ∙ c.if-are_among.true in
    let foreign = sym c.may_own.ensures ∙ c.if-not-may_own.true in
    step_up c.args.owners.now c.args.classes.now memberless c.requires c.args.name.now class (sym c.in_ok-class.ensures) plain foreign
