use Rattle.std.proofs.Common.{◌≡◌, ◌∙◌, ℕ, length, ap}
use Rattle.cert_format.specs.declared.typing.FrameType.{FrameType}
use Rattle.insn_codec.specs.Shapes.{shape_of}
use Rattle.bytecode_model.specs.Makes.{type_at}
use Rattle.bytecode_model.specs.InsnPlace.{InsnPlace}
use Rattle.type_infer.specs.Solving.{local_settled, operand_settled}
use Rattle.type_infer.proofs.Lists.{if_some}
use Rattle.type_infer.proofs.joining.settled.Goals as goal

pub returns-clause-locals : goal.returns-clause-locals
returns-clause-locals c =
    let place = c.args.place.now in
    let shape = c.shape_of-shape.ensures ∙ ap (λ (p : InsnPlace). shape_of p.insn) c.place.view_is in
    if_some c.new.result (λ (told : FrameType). told.locals ≡ c.in_ok-locals.locals)
    (λ (told : FrameType). (j : ℕ) → type_at told.locals j ≡ local_settled place (shape_of place.insn) (type_at c.args.locals j))
    (λ told e j. ap (λ l. type_at l j) e ∙ c.in_ok-locals.ensures.types j ∙ ap (λ s. local_settled place s (type_at c.args.locals j)) shape) c.new.ensures.locals

pub returns-clause-height : goal.returns-clause-height
returns-clause-height c =
    if_some c.new.result (λ (told : FrameType). told.stack ≡ c.in_ok-stack.stack) (λ (told : FrameType). length told.stack ≡ length c.args.stack)
    (λ told e. ap length e ∙ c.in_ok-stack.ensures.count) c.new.ensures.stack

pub returns-clause-stack : goal.returns-clause-stack
returns-clause-stack c =
    let place = c.args.place.now in
    let shape = c.shape_of-shape.ensures ∙ ap (λ (p : InsnPlace). shape_of p.insn) c.place.view_is in
    if_some c.new.result (λ (told : FrameType). told.stack ≡ c.in_ok-stack.stack)
    (λ (told : FrameType). (j : ℕ) → type_at told.stack j ≡ operand_settled place (shape_of place.insn) (type_at c.args.stack j))
    (λ told e j. ap (λ l. type_at l j) e ∙ c.in_ok-stack.ensures.types j ∙ ap (λ s. operand_settled place s (type_at c.args.stack j)) shape) c.new.ensures.stack
