use Rattle.std.proofs.Common.{None, Some, length, refl, sym}
use Rattle.std.proofs.lemmas.Option.{slice_get_past, slice_get_read}
use Rattle.api_listing.specs.BuiltIn.{MethodRow}
use Rattle.guest_model.specs.Calls.{arity}
use Rattle.guest_model.specs.declared.arities.TheConstants.{ARITIES}
use Rattle.guest_model.proofs.Rows.{arities_are, row_got}
use Rattle.guest_model.proofs.arities.arity_of_row.Goals as goal

pub returns-in-Some : goal.returns-in-Some
returns-in-Some c =
    row_got (λ (row : MethodRow). arity row.2) ARITIES c.as_slice.result.now arities_are c.as_slice.ensures c.args.index (Some c.in-Some.count.now)
    (sym (slice_get_read c.as_slice.result.now (length c.as_slice.result.now) c.args.index c.in-Some.count.now refl c.in-Some.ensures.lookup.3.0 c.in-Some.ensures.lookup.1))

pub returns-in-None : goal.returns-in-None
returns-in-None c =
    row_got (λ (row : MethodRow). arity row.2) ARITIES c.as_slice.result.now arities_are c.as_slice.ensures c.args.index None (sym (slice_get_past c.as_slice.result.now c.args.index c.in-None.ensures.lookup.3))
