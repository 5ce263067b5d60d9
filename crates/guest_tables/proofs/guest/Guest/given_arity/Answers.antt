use Rattle.std.proofs.Common.{List, ℕ, ap, ◌∙◌}
use Rattle.std.specs.Prelude.{slice_get}
use Rattle.std.specs.Option.{option_and_then, option_map}
use Rattle.bytecode_model.specs.declared.program.Method.{Method}
use Rattle.bytecode_model.specs.declared.program.Program.{Program}
use Rattle.guest_model.specs.Calls.{arity}
use Rattle.guest_model.specs.Places.{method_at}
use Rattle.guest_tables.proofs.Told.{arity_given}
use Rattle.guest_tables.proofs.guest.Guest.given_arity.Goals as goal

pub returns-in-Some : goal.returns-in-Some
returns-in-Some c =
    c.copy_at.ensures ∙ ap (option_and_then (λ (row : List ℕ). slice_get row c.args.method)) c.in-Some.ensures
    ∙ ap (λ (table : List (List ℕ)). option_and_then (λ (row : List ℕ). slice_get row c.args.method) (slice_get table c.args.class)) c.self.invariant.kept.arities_are
    ∙ arity_given c.self.inside.program c.args.class c.args.method
    ∙ ap (λ (p : Program). option_map (λ (m : Method). arity m.desc) (method_at p c.args.class c.args.method)) c.self.view_is

pub returns-in-None : goal.returns-in-None
returns-in-None c =
    ap (option_and_then (λ (row : List ℕ). slice_get row c.args.method)) c.in-None.ensures
    ∙ ap (λ (table : List (List ℕ)). option_and_then (λ (row : List ℕ). slice_get row c.args.method) (slice_get table c.args.class)) c.self.invariant.kept.arities_are
    ∙ arity_given c.self.inside.program c.args.class c.args.method
    ∙ ap (λ (p : Program). option_map (λ (m : Method). arity m.desc) (method_at p c.args.class c.args.method)) c.self.view_is
