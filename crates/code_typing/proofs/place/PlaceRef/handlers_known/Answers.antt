use Rattle.std.proofs.Common.{sym, ap, ◌∙◌}
use Rattle.bytecode_model.specs.InsnPlace.{InsnPlace}
use Rattle.code_typing.specs.Catching.{all_take_thrown}
use Rattle.code_typing.proofs.place.PlaceRef.handlers_known.Goals as goal

pub returns : goal.returns
returns c known = ap (λ (p : InsnPlace). all_take_thrown p.program p.method.handlers) (sym c.self.view_is) ∙ c.self.invariant.1 known
