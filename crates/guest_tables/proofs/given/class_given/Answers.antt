use Rattle.std.proofs.Common.{Some, None, sym, ap, ◌∙◌}
use Rattle.std.specs.Prelude.{slice_get}
use Rattle.bytecode_model.specs.declared.program.Program.{Program}
use Rattle.guest_tables.proofs.GivenClasses.{class_found}
use Rattle.guest_tables.proofs.given.class_given.Goals as goal

pub returns-in-Some : goal.returns-in-Some
returns-in-Some c =
    c.class_at.ensures ∙ ap (λ (p : Program). slice_get p.classes c.in-Some.index) c.program.ensures
    ∙ sym (class_found c.args.program.now c.args.name.now (Some c.in-Some.index) (sym c.in-Some.ensures))

pub returns-in-None : goal.returns-in-None
returns-in-None c = sym (class_found c.args.program.now c.args.name.now None (sym c.in-None.ensures))
