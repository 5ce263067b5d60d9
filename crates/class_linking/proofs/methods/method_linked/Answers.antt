use Rattle.std.proofs.Common.{◌∙◌, ap, sym}
use Rattle.std.specs.List.{slice_get, filter_map}
use Rattle.bytecode_model.specs.Conditions.{code_in}
use Rattle.bytecode_model.proofs.Codes.{code_short, code_few}
use Rattle.class_linking.proofs.methods.method_linked.Goals as goal

pub code_linked-requires-clause-short : goal.code_linked-requires-clause-short
code_linked-requires-clause-short c =
    let is = ap (λ attrs. slice_get (filter_map code_in attrs) 0) (sym c.as_slice.ensures) ∙ sym c.in-Some.ensures in
    code_short c.args.file.now.pool c.args.member.now.attrs c.in-Some.code.now c.requires.fits.attrs.each is

pub code_linked-requires-clause-table : goal.code_linked-requires-clause-table
code_linked-requires-clause-table c =
    let is = ap (λ attrs. slice_get (filter_map code_in attrs) 0) (sym c.as_slice.ensures) ∙ sym c.in-Some.ensures in
    code_few c.args.file.now.pool c.args.member.now.attrs c.in-Some.code.now c.requires.fits.attrs.each is
