use Rattle.std.proofs.Common.{ap, ◌∙◌}
use Rattle.std.specs.Prelude.{slice_get}
use Rattle.std.specs.Option.{option_map}
use Rattle.std.proofs.lemmas.Option.{slice_get-map}
use Rattle.api_listing.specs.declared.types.ListedMethod.{ListedMethod}
use Rattle.bytecode_model.specs.declared.program.Program.{Program}
use Rattle.guest_model.specs.Calls.{arity}
use Rattle.guest_tables.specs.declared.library.Library.{Library}
use Rattle.guest_tables.proofs.guest.Guest.listed_arity.Goals as goal

pub returns : goal.returns
returns c =
    c.copy_at.ensures ∙ ap (λ (l : Library). slice_get l.arities c.args.index) c.self.invariant.kept.library_is
    ∙ slice_get-map (λ (m : ListedMethod). arity m.id.desc) c.self.inside.program.listing.methods c.args.index
    ∙ ap (λ (p : Program). option_map (λ (m : ListedMethod). arity m.id.desc) (slice_get p.listing.methods c.args.index)) c.self.view_is
