use Rattle.std.proofs.Common.{ap, ◌∙◌}
use Rattle.insn_codec.specs.Shapes.{shape_of}
use Rattle.bytecode_model.specs.InsnPlace.{InsnPlace}
use Rattle.code_typing.proofs.place.PlaceRef.shape.Goals as goal

pub returns : goal.returns
returns c = c.self.invariant.0 ∙ ap (λ (p : InsnPlace). shape_of p.insn) c.self.view_is
