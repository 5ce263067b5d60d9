use Rattle.std.proofs.Common.{ap, ◌∙◌}
use Rattle.std.specs.Prelude.{slice_get}
use Rattle.std.specs.Option.{option_and_then}
use Rattle.bytecode_model.specs.declared.program.Program.{Program}
use Rattle.guest_model.specs.Finding.{declared_in}
use Rattle.guest_tables.specs.Methods.{Methods, method_in}
use Rattle.guest_tables.proofs.Naming.{methods_at}
use Rattle.guest_tables.proofs.guest.Guest.declared.Goals as goal

pub returns-in-Some : goal.returns-in-Some
returns-in-Some c =
    c.method_in.ensures ∙ ap (option_and_then (λ (t : Methods). method_in t c.args.name.now c.args.desc.now)) c.in-Some.ensures
    ∙ methods_at c.self.inside.tables.methods.named c.self.inside.program.classes c.args.class c.args.name.now c.args.desc.now c.self.invariant.kept.methods_are
    ∙ ap (λ (p : Program). option_and_then (declared_in c.args.name.now c.args.desc.now) (slice_get p.classes c.args.class)) c.self.view_is

pub returns-in-None : goal.returns-in-None
returns-in-None c =
    ap (option_and_then (λ (t : Methods). method_in t c.args.name.now c.args.desc.now)) c.in-None.ensures
    ∙ methods_at c.self.inside.tables.methods.named c.self.inside.program.classes c.args.class c.args.name.now c.args.desc.now c.self.invariant.kept.methods_are
    ∙ ap (λ (p : Program). option_and_then (declared_in c.args.name.now c.args.desc.now) (slice_get p.classes c.args.class)) c.self.view_is
