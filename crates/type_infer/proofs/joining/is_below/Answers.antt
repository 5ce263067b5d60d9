use Rattle.std.proofs.Common.{◌≡◌, ◌∙◌, length, sym}
use Rattle.type_infer.proofs.Below.{stack_below}
use Rattle.type_infer.proofs.joining.is_below.Goals as goal

pub returns : goal.returns
returns c h =
    let from = c.args.from.now in
    let to = c.args.to.now in
    let height : length from.stack ≡ length to.stack = sym c.len.ensures ∙ c.if-len.false ∙ c.len-2.ensures in
    record {
      stack = stack_below c.args.program.now from.stack to.stack height (rw (c.as_slice.ensures, c.as_slice-2.ensures) at (c.types_below.ensures c.if-not-types_below.false));
      locals = rw (c.as_slice-3.ensures, c.as_slice-4.ensures) at (c.types_below-2.ensures h);
    }
