use Rattle.std.proofs.Common.{◌≡◌, ◌∙◌, List, subst}
use Rattle.std.specs.Prelude.{Contains}
use Rattle.bytecode_model.specs.declared.program.Handler.{Handler}
use Rattle.bytecode_model.proofs.Picking.{at_places}
use Rattle.bytecode_model.proofs.exception_table.Handlers.near.Goals as goal

pub returns-clause-among : goal.returns-clause-among
returns-clause-among c handler among =
    let table : c.as_slice.result.now ≡ c.args.self.now = c.as_slice.ensures ∙ c.self.view_is in
    subst (λ (xs : List Handler). Contains xs handler) table (at_places c.as_slice.result.now c.places_near.result.now handler among)
