use Rattle.std.proofs.Common.{◌∙◌, ap, sym}
use Rattle.std.specs.List.{slice_get, filter_map}
use Rattle.bytecode_model.specs.Conditions.{code_in}
use Rattle.bytecode_model.proofs.Codes.{code_short}
use Rattle.class_text.proofs.printing.push_method.Goals as goal

pub push_body-requires : goal.push_body-requires
push_body-requires c =
    let is = ap (λ attrs. slice_get (filter_map code_in attrs) 0) (sym c.as_slice.ensures) ∙ sym c.in-Some.ensures in
    code_short c.args.file.now.pool c.args.member.now.attrs c.in-Some.code.now c.requires.attrs.each is
