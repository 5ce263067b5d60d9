use Rattle.std.proofs.Common.{Bool, Option, false, ap, ◌∙◌}
use Rattle.std.specs.Prelude.{slice_get}
use Rattle.std.specs.Option.{option_map_or}
use Rattle.api_listing.specs.declared.descriptor.FieldType.{FieldType}
use Rattle.guest_model.specs.Answering.{answer_fits}
use Rattle.guest_tables.specs.declared.library.ListedResult.{ListedResult}
use Rattle.guest_step.proofs.Given.{class_of_type, of_given}
use Rattle.guest_step.proofs.fitting.fits_call.Goals as goal

pub result_takes-requires : goal.result_takes-requires
result_takes-requires c = class_of_type (slice_get c.args.guest.now.listing.methods c.args.method) c.in-Some.gives.now c.in-Some.ensures

pub returns-in-Some : goal.returns-in-Some
returns-in-Some c =
    let test : Option FieldType → Bool = λ (of : Option FieldType). answer_fits c.args.guest.now c.args.heap.now of c.args.receiver c.args.args.now c.args.answer.now in
    c.result_takes.ensures
    ∙ ap (λ (o : Option ListedResult). option_map_or (λ (r : ListedResult). test r.of) o false) c.in-Some.ensures
    ∙ of_given test (slice_get c.args.guest.now.listing.methods c.args.method)

pub returns-in-None : goal.returns-in-None
returns-in-None c =
    let test : Option FieldType → Bool = λ (of : Option FieldType). answer_fits c.args.guest.now c.args.heap.now of c.args.receiver c.args.args.now c.args.answer.now in
    ap (λ (o : Option ListedResult). option_map_or (λ (r : ListedResult). test r.of) o false) c.in-None.ensures
    ∙ of_given test (slice_get c.args.guest.now.listing.methods c.args.method)
