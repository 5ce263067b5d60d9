use Rattle.std.proofs.Common.{rules, ◌≡◌, Some, sym, ◌∙◌, ap}
use Rattle.std.proofs.lemmas.Bool.{lt-ltb}
use Rattle.insn_codec.specs.Effect.{local}
use Rattle.insn_codec.specs.declared.shape.ValueKind.TheVariants as kinds
use Rattle.guest_heap.specs.declared.value.Value.TheVariants as values
use Rattle.guest_frames.specs.Values.{values_moved}
use Rattle.guest_frames.proofs.Locals.{inside}
use Rattle.guest_frames.proofs.operands.increment.Goals as goal

pub returns : goal.returns
returns c =
    let there : local values_moved kinds.Int c.args.slot c.args.locals.now ≡ Some (values.Int c.in-Some-Int.n) = sym c.in-Some-Int.ensures ∙ ap Some c.in-Some-Int.field-0-is in
    rw there (rw (lt-ltb _ _ (inside kinds.Int c.args.slot c.args.locals.now (values.Int c.in-Some-Int.n) there)) (search rules))
