-- A clause of which what stands after its type is read by itself.
use Rattle.std.proofs.Common.{◌≡◌, true, ℤ, List, length, drop, nat_lt, Some, Ok, refl}
use Rattle.api_listing.specs.declared.types.ListedMethod.{ListedMethod}
use Rattle.conspec_tokens.specs.declared.token.Token.{Token}
use Rattle.conspec_tree.specs.declared.types.Phase.{Phase}
use Rattle.conspec_tree.specs.declared.types.TreeClause.{TreeClause}
use Rattle.conspec_tree.specs.declared.types.Var.{Var}
use Rattle.conspec_parse.specs.declared.type_name.TypeName.{TypeName}
use Rattle.conspec_parse.specs.Clauses.{clause_at, clause_of_type, next_phase}
use Rattle.conspec_parse.specs.Types.{type_at}

pub clause_is : (methods : List ListedMethod) (vars : List Var) (maxint : ℤ) (clauses : List TreeClause) (tokens left : List Token) (phase : Phase) (type : TypeName)
    → nat_lt (length clauses) 64 ≡ true → next_phase tokens ≡ Some phase → type_at true (drop 1 tokens) ≡ Ok (type, left)
    → clause_at methods vars maxint clauses tokens ≡ clause_of_type methods vars maxint phase type clauses left
unfolding clause_at
clause_is methods vars maxint clauses tokens left phase type few begun read = rw (few, begun, read) refl
