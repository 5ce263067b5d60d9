use Rattle.std.proofs.Common.{◌≡◌, ◌∙◌, Some, ap, sym}
use Rattle.std.specs.Prelude.{bytes_eq, slice_get}
use Rattle.std.specs.Option.{option_and_then, option_copied}
use Rattle.api_listing.specs.declared.types.ListedClass.{ListedClass}
use Rattle.api_listing.specs.Nearest.{class_named}
use Rattle.bytecode_model.specs.ByName.{noted}
use Rattle.bytecode_model.specs.Places.{class_place}
use Rattle.mon_base.proofs.Lists.{got}
use Rattle.bytecode_model.proofs.Placing.{find_at}
use Rattle.class_index.proofs.classes.Classes.placed.Goals as goal

pub returns : goal.returns
returns c =
    let list = c.self.inside.list in
    let name = c.args.name.now in
    let place = c.in_ok-place.place in
    let class = c.in_ok-class.class.now in
    let h = c.get.ensures.lookup in
    let there : slice_get list place ≡ Some class = ap (λ xs. slice_get xs place) (sym c.as_slice-2.ensures) ∙ sym (got c.get.result c.as_slice-2.result.now place h.3 h.1) ∙ ap option_copied c.in_ok-class.was in
    let placed : class_place list name ≡ Some place =
    sym (c.self.invariant.placed name) ∙ ap (noted c.self.inside.places) (sym c.as_slice.ensures) ∙ sym c.noted.ensures ∙ c.in_ok-place.was in
    let named : class_named list name ≡ Some class = find_at (λ (x : ListedClass). bytes_eq x.name name) list ∙ ap (option_and_then (slice_get list)) placed ∙ there in
    (ap (λ xs. slice_get xs place) (sym c.self.view_is) ∙ there, ap (λ xs. class_named xs name) (sym c.self.view_is) ∙ named)
