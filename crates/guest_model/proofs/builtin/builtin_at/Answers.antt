use Rattle.std.proofs.Common.{None, Some, length, refl, sym}
use Rattle.std.proofs.lemmas.Option.{slice_get_past, slice_get_read}
use Rattle.guest_model.specs.Builtins.{builtin_of_row}
use Rattle.guest_model.specs.declared.builtin.TheConstants.{BUILTINS}
use Rattle.guest_model.proofs.Rows.{builtins_are, row_got}
use Rattle.guest_model.proofs.builtin.builtin_at.Goals as goal

pub returns-in-Some : goal.returns-in-Some
returns-in-Some c =
    row_got builtin_of_row BUILTINS c.as_slice.result.now builtins_are c.as_slice.ensures c.args.index (Some c.in-Some.builtin.now)
    (sym (slice_get_read c.as_slice.result.now (length c.as_slice.result.now) c.args.index c.in-Some.builtin.now refl c.in-Some.ensures.lookup.3.0 c.in-Some.ensures.lookup.1))

pub returns-in-None : goal.returns-in-None
returns-in-None c =
    row_got builtin_of_row BUILTINS c.as_slice.result.now builtins_are c.as_slice.ensures c.args.index None (sym (slice_get_past c.as_slice.result.now c.args.index c.in-None.ensures.lookup.3))
