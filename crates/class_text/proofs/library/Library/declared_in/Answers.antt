use Rattle.std.proofs.Common.{◌∙◌, ap}
use Rattle.api_listing.specs.declared.types.Listing.{Listing}
use Rattle.api_listing.specs.Nearest.{declared_in}
use Rattle.class_text.proofs.Placing.{same_declared}
use Rattle.class_text.proofs.library.Library.declared_in.Goals as goal

pub returns-in-Some : goal.returns-in-Some
returns-in-Some c =
    c.in-Some.ensures.value ∙ c.self.invariant.methods_placed _
    ∙ same_declared c.self.inside.listing.now.methods _ _ _ _ _ _ c.in_ok-name.ensures c.in_ok-desc.ensures c.in_ok-class.ensures
    ∙ ap (λ (l : Listing). declared_in l.methods c.args.id.now.name c.args.id.now.desc c.args.class.now) c.self.view_is

pub returns : goal.returns
returns c =
    c.in-None.ensures.value ∙ c.self.invariant.methods_placed _
    ∙ same_declared c.self.inside.listing.now.methods _ _ _ _ _ _ c.in_ok-name.ensures c.in_ok-desc.ensures c.in_ok-class.ensures
    ∙ ap (λ (l : Listing). declared_in l.methods c.args.id.now.name c.args.id.now.desc c.args.class.now) c.self.view_is
