-- How a policy is read. (docs/POLICIES.md)
use Rattle.std.specs.Prelude.{ℕ, List, [], Ok}
use Rattle.mon_base.specs.Reading.{◌>>=◌, need}
use Rattle.api_listing.specs.declared.types.ListedMethod.{ListedMethod}
use Rattle.api_listing.specs.declared.types.Listing.{Listing}
use Rattle.conspec_tokens.specs.declared.token.Token.{Token}
use Rattle.conspec_tree.specs.declared.types.PolicyTree.{PolicyTree}
use Rattle.conspec_parse.specs.declared.fault.PolicyFault.TheVariants.{Syntax}
use Rattle.conspec_parse.specs.Fault.{Judged}
use Rattle.conspec_tokens.specs.Front.{front_at, is_end}
use Rattle.conspec_parse.specs.Forms.{each}
use Rattle.conspec_parse.specs.Head.{header_at, variables_at}
use Rattle.conspec_parse.specs.Clauses.{begins_clause, clause_at}
use Rattle.conspec_tokens.specs.Tokens.{tokens_of}

unfoldable pub policy_at : List ListedMethod → List Token → Judged PolicyTree
policy_at methods tokens = do
  maxint ← header_at tokens
  vars ← variables_at maxint.0 maxint.1
  clauses ← each begins_clause (clause_at methods vars.0 maxint.0) [] vars.1
  ended ← need (is_end clauses.1) (Syntax (front_at clauses.1))
  Ok (record { maxint = maxint.0; vars = vars.0; clauses = clauses.0 })

-- what the text gives: the policy, or the fault that stands first in it
abbrev pub reading : List ℕ → Listing → Judged PolicyTree
reading text listing = policy_at listing.methods (tokens_of text)
