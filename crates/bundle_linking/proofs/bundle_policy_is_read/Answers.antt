-- The text is read by evaluation.
use Rattle.std.proofs.Common.{refl}
use Rattle.api_listing.specs.BuiltIn.{method_rows}
use Rattle.bundle_gen.specs.Generated.{policy_text}
use Rattle.bundle_gen.specs.Linked.{net_listing}
use Rattle.conspec_parse.specs.Clauses.{body_at, clause_at, clause_of_method, clause_of_type, guard_at, guard_of}
use Rattle.conspec_parse.specs.Forms.{repeated}
use Rattle.conspec_parse.specs.Guards.{atom_at, atoms_at, conjs_at, next_atom, positive_at}
use Rattle.conspec_parse.specs.Head.{count_at, header_at, variable_at}
use Rattle.conspec_parse.specs.Methods.{given_name_at, index_at, next_step, parameter_at, path_at, signature_at, some_parameters}
use Rattle.conspec_parse.specs.Policy.{policy_at}
use Rattle.conspec_parse.specs.Types.{judged_name, type_at}
use Rattle.conspec_parse.specs.Updates.{block_at, sum_at, update_at}
use Rattle.conspec_tokens.specs.Tokens.{tokens_of}
use Rattle.bundle_linking.proofs.bundle_policy_is_read.Goals as goal

pub returns : goal.returns
unfolding atom_at atoms_at block_at body_at clause_at clause_of_method clause_of_type conjs_at count_at given_name_at guard_at guard_of header_at index_at judged_name method_rows net_listing next_atom next_step parameter_at path_at policy_at policy_text positive_at repeated signature_at some_parameters sum_at tokens_of type_at update_at variable_at
returns c = refl
