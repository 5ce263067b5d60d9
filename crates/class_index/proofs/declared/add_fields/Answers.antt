use Rattle.std.proofs.Common.{◌∙◌, ◌++◌, ap}
use Rattle.std.specs.Option.{option_or}
use Rattle.class_index.specs.Index.{found_in}
use Rattle.bytecode_model.specs.Members.{first_of, given_from, listed_fields_from}
use Rattle.bytecode_model.specs.declared.members.MemberKind.TheVariants as kinds
use Rattle.class_index.proofs.Declaring.{both}
use Rattle.class_index.proofs.declared.add_fields.Goals as goal

pub returns : goal.returns
returns c =
    let given = given_from kinds.Field 0 c.args.files.now in
    λ q. both given (listed_fields_from 0 c.as_slice.result.now) _ _ _ q (c.in_ok-add_files.ensures q) (c.in_ok-add_listed_fields.ensures q)
    ∙ ap (λ fields. option_or (found_in c.args.found.now q) (first_of (given ++ listed_fields_from 0 fields) q)) c.as_slice.ensures
