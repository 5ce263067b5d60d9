use Rattle.std.proofs.Common.{Option, Some, None, sym, ap, ◌∙◌}
use Rattle.std.specs.Prelude.{slice_get}
use Rattle.std.specs.Option.{option_map_or}
use Rattle.bytecode_model.specs.declared.program.LinkedClass.{LinkedClass}
use Rattle.bytecode_model.specs.declared.program.Program.{Program}
use Rattle.guest_tables.specs.Layout.{own_count}
use Rattle.guest_tables.proofs.GivenClasses.{class_found}
use Rattle.guest_tables.proofs.fields.own_count_of.Goals as goal

pub returns-in-Some : goal.returns-in-Some
returns-in-Some c =
    c.own_count_at.ensures ∙ ap (λ (p : Program). option_map_or (λ (of : LinkedClass). own_count of.file) (slice_get p.classes c.in-Some.index) 0) c.program.ensures
    ∙ ap (λ (o : Option LinkedClass). option_map_or (λ (of : LinkedClass). own_count of.file) o 0)
    (sym (class_found c.args.program.now c.args.name.now (Some c.in-Some.index) (sym c.in-Some.ensures)))

pub returns-in-None : goal.returns-in-None
returns-in-None c =
    ap (λ (o : Option LinkedClass). option_map_or (λ (of : LinkedClass). own_count of.file) o 0)
    (sym (class_found c.args.program.now c.args.name.now None (sym c.in-None.ensures)))
