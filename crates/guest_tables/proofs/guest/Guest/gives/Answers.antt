use Rattle.std.proofs.Common.{ap, ◌∙◌}
use Rattle.std.specs.Prelude.{slice_get}
use Rattle.std.specs.Option.{option_map}
use Rattle.std.proofs.lemmas.Option.{slice_get-map}
use Rattle.api_listing.specs.declared.types.ListedMethod.{ListedMethod}
use Rattle.bytecode_model.specs.declared.program.Program.{Program}
use Rattle.guest_tables.specs.Library.{gives}
use Rattle.guest_tables.specs.declared.library.Library.{Library}
use Rattle.guest_tables.proofs.guest.Guest.gives.Goals as goal

pub returns : goal.returns
returns c =
    c.item_at.ensures ∙ ap (λ (l : Library). slice_get l.gives c.args.method) c.self.invariant.kept.library_is
    ∙ slice_get-map (λ (m : ListedMethod). gives m.id.desc) c.self.inside.program.listing.methods c.args.method
    ∙ ap (λ (p : Program). option_map (λ (m : ListedMethod). gives m.id.desc) (slice_get p.listing.methods c.args.method)) c.self.view_is
