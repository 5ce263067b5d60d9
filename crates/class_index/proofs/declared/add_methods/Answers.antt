use Rattle.std.proofs.Common.{◌∙◌, ◌++◌, ap, map}
use Rattle.std.specs.Option.{option_or}
use Rattle.class_index.specs.Index.{found_in}
use Rattle.bytecode_model.specs.Members.{first_of, given_from, listed_from, rows_from}
use Rattle.bytecode_model.specs.declared.members.MemberKind.TheVariants as kinds
use Rattle.class_index.proofs.Declaring.{methods_are, chain}
use Rattle.class_index.proofs.declared.add_methods.Goals as goal

pub returns : goal.returns
returns c =
    let given = given_from kinds.Method 0 c.args.files.now in
    let rows = ap (map (λ r. (r.0.now, r.1.now, r.2.now, r.3))) c.as_slice-2.ensures ∙ methods_are in
    λ q. chain given (listed_from 0 c.as_slice.result.now) (rows_from 0 (map (λ r. (r.0.now, r.1.now, r.2.now, r.3)) c.as_slice-2.result.now)) _ _ _ _ q (c.in_ok-add_files.ensures q) (c.in_ok-add_listed.ensures q) (c.in_ok-add_rows.ensures q)
    ∙ ap (λ methods. option_or (found_in c.args.found.now q) (first_of (given ++ (listed_from 0 methods ++ rows_from 0 (map (λ r. (r.0.now, r.1.now, r.2.now, r.3)) c.as_slice-2.result.now))) q)) c.as_slice.ensures
    ∙ ap (λ rs. option_or (found_in c.args.found.now q) (first_of (given ++ (listed_from 0 c.args.listing.now.methods ++ rows_from 0 rs)) q)) rows
