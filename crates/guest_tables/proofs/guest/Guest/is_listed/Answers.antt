use Rattle.std.proofs.Common.{ap, ◌∙◌}
use Rattle.std.specs.Prelude.{bytes_eq, is_some}
use Rattle.api_listing.specs.declared.types.ListedClass.{ListedClass}
use Rattle.api_listing.specs.Listing.{is_known}
use Rattle.bytecode_model.specs.declared.program.Program.{Program}
use Rattle.bytecode_model.proofs.Placing.{has_place}
use Rattle.guest_tables.proofs.guest.Guest.is_listed.Goals as goal

pub returns-in-Some : goal.returns-in-Some
returns-in-Some c =
    ap is_some c.in-Some.ensures ∙ has_place (λ (of : ListedClass). bytes_eq of.name c.args.name.now) 0 c.self.inside.program.listing.classes
    ∙ ap (λ (p : Program). is_known p.listing.classes c.args.name.now) c.self.view_is

pub returns-in-None : goal.returns-in-None
returns-in-None c =
    ap is_some c.in-None.ensures ∙ has_place (λ (of : ListedClass). bytes_eq of.name c.args.name.now) 0 c.self.inside.program.listing.classes
    ∙ ap (λ (p : Program). is_known p.listing.classes c.args.name.now) c.self.view_is
