use Rattle.std.proofs.Common.{Bool, false, sym, ap, ◌∙◌}
use Rattle.std.specs.Prelude.{slice_get}
use Rattle.std.specs.Option.{option_map_or}
use Rattle.bytecode_model.specs.declared.program.Program.{Program}
use Rattle.guest_model.specs.Answering.{is_listed_class}
use Rattle.guest_tables.specs.declared.library.Library.{Library}
use Rattle.guest_tables.proofs.GivenClasses.{fresh_is, fresh_not}
use Rattle.guest_tables.proofs.guest.Guest.is_fresh.Goals as goal

pub returns-in-Some : goal.returns-in-Some
returns-in-Some c =
    c.truth_at.ensures ∙ ap (λ (l : Library). option_map_or (λ (b : Bool). b) (slice_get l.fresh c.in-Some.place) false) c.self.invariant.kept.library_is
    ∙ fresh_is c.self.inside.program c.args.name.now c.in-Some.place (sym c.in-Some.ensures)
    ∙ ap (λ (p : Program). is_listed_class p c.args.name.now) c.self.view_is

pub returns-in-None : goal.returns-in-None
returns-in-None c =
    fresh_not c.self.inside.program c.args.name.now (sym c.in-None.ensures) ∙ ap (λ (p : Program). is_listed_class p c.args.name.now) c.self.view_is
