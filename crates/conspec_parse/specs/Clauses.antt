-- Clauses: the events of a method, and what is asked and done there. (docs/POLICIES.md)
use Rattle.std.specs.Prelude.{is_some, ◌||◌, ◌&&◌, not, ℕ, ℤ, Bool, true, List, [], ◌∷◌, ◌++◌, length, map, drop, codes, nat_lt, Option, Some, None, ok_or, Ok, if◌then◌else◌}
use Rattle.mon_base.specs.Reading.{◌>>=◌, need}
use Rattle.api_listing.specs.declared.types.ListedMethod.{ListedMethod}
use Rattle.conspec_tokens.specs.declared.token.Token.{Token}
use Rattle.conspec_tree.specs.declared.types.Kind.{Kind}
use Rattle.conspec_tree.specs.declared.types.Phase.{Phase}
use Rattle.conspec_tree.specs.declared.types.Phase.TheVariants.{Before, After, Exceptional}
use Rattle.conspec_tree.specs.declared.types.Var.{Var}
use Rattle.conspec_tree.specs.declared.types.Atom.{Atom}
use Rattle.conspec_tree.specs.declared.types.Guard.{Guard}
use Rattle.conspec_tree.specs.declared.types.TreeClause.{TreeClause}
use Rattle.conspec_parse.specs.declared.signature.Param.{Param}
use Rattle.conspec_parse.specs.declared.type_name.TypeName.{TypeName}
use Rattle.conspec_parse.specs.declared.fault.PolicyFault.TheVariants.{Syntax, Kind as WrongKind, Twice, Limit}
use Rattle.conspec_parse.specs.Forms.{Parsed, following, name_at, is_short, each}
use Rattle.conspec_tokens.specs.Front.{front_at, is_next, is_name}
use Rattle.conspec_tree.specs.Clauses.{is_after}
use Rattle.conspec_tree.specs.Guards.{branches, longest}
use Rattle.conspec_tree.specs.Variables.{is_variable}
use Rattle.conspec_parse.specs.Types.{type_at}
use Rattle.conspec_tree.specs.Kinds.{kind_or_object}
use Rattle.conspec_parse.specs.Methods.{method_at}
use Rattle.conspec_parse.specs.Guards.{conjs_at}
use Rattle.conspec_parse.specs.Scope.{Scope}
use Rattle.conspec_parse.specs.Updates.{block_at}

-- ---- bodies

abbrev pub begins_guard : List Token → Bool
begins_guard tokens = is_next (codes "true") tokens || is_name tokens

-- a guard more with these branches, from its arrow on
unfoldable pub guard_of : List Var → ℤ → List Guard → List (List Atom) → List Token → Parsed (List Guard)
guard_of vars maxint guards conjs tokens = do
  arrow ← following (codes "->") tokens
  updates ← block_at vars maxint (longest conjs) arrow
  Ok (guards ++ (record { conjs = conjs; updates = updates.0 }) ∷ [], updates.1)

-- a guard more
unfoldable pub guard_at : Scope → ℤ → List Guard → List Token → Parsed (List Guard)
guard_at scope maxint guards tokens = do
  conjs ← conjs_at scope (branches guards) tokens
  guard_of scope.vars maxint guards conjs.0 conjs.1

-- the guard that always holds, as the last
unfoldable pub last_guard : Scope → ℤ → List Guard → List Token → Parsed (List Guard)
last_guard scope maxint guards tokens = do
  few ← need (nat_lt (branches guards) 64) (Limit (front_at tokens))
  guard_of scope.vars maxint guards ([] ∷ []) (drop 1 tokens)

abbrev pub with_else : Scope → ℤ → List Guard → List Token → Parsed (List Guard)
with_else scope maxint guards tokens = if is_next (codes "ELSE") tokens then last_guard scope maxint guards tokens else Ok (guards, tokens)

unfoldable pub body_at : Scope → ℤ → List Token → Parsed (List Guard)
body_at scope maxint tokens = do
  guards ← each begins_guard (guard_at scope maxint) [] tokens
  with_else scope maxint guards.0 guards.1

-- ---- clauses

abbrev pub next_phase : List Token → Option Phase
next_phase tokens =
    if is_next (codes "BEFORE") tokens then Some Before
    else if is_next (codes "AFTER") tokens then Some After
    else if is_next (codes "EXCEPTIONAL") tokens then Some Exceptional
    else None

abbrev pub begins_clause : List Token → Bool
begins_clause tokens = is_some (next_phase tokens)

-- a name and `=`
abbrev pub is_assigned : List Token → Bool
is_assigned tokens = is_name tokens && is_next (codes "=") (drop 1 tokens)

-- the name of a result of this kind
unfoldable pub given_result_at : List Var → Option Kind → List Token → Parsed (List ℕ)
given_result_at vars kind tokens = do
  name ← name_at tokens
  valued ← need (is_some kind) (WrongKind (front_at tokens))
  once ← need (not (is_variable vars name.0)) (Twice (front_at tokens))
  short ← need (is_short name.0) (Limit (front_at tokens))
  equals ← following (codes "=") name.1
  Ok (name.0, equals)

abbrev pub some_result_at : List Var → Option Kind → List Token → Parsed (Option (List ℕ))
some_result_at vars kind tokens = given_result_at vars kind tokens >>= λ name. Ok (Some name.0, name.1)

-- the result's name, where it has one
abbrev pub result_name_at : List Var → Phase → Option Kind → List Token → Parsed (Option (List ℕ))
result_name_at vars phase kind tokens =
    if is_after phase && is_assigned tokens then some_result_at vars kind tokens else Ok (None, tokens)

-- At a call the arguments may be asked, and at a return the result.
abbrev pub asked_params : Phase → List Param → List Param
asked_params Before params = params
asked_params other params = []

abbrev pub scope_of : List Var → Phase → List Param → Option (List ℕ) → Option Kind → Scope
scope_of vars phase params result kind = record { vars = vars; args = asked_params phase params; returned = result; kind = kind_or_object kind }

abbrev pub clause_of : ℕ → Phase → List Param → Option Kind → List Guard → TreeClause
clause_of method phase params kind guards = record {
  method = method;
  phase = phase;
  args = map (λ p. p.kind) params;
  result = kind;
  guards = guards;
}

-- another clause of this method, from its guards on
unfoldable pub clause_of_method : Scope → ℤ → ℕ → Phase → List Param → Option Kind → List TreeClause → List Token → Parsed (List TreeClause)
clause_of_method scope maxint method phase params kind clauses tokens = do
  performs ← following (codes "PERFORM") tokens
  guards ← body_at scope maxint performs
  Ok (clauses ++ clause_of method phase params kind guards.0 ∷ [], guards.1)

-- another clause of this phase and type, from its result's name or its method on
unfoldable pub clause_of_type : List ListedMethod → List Var → ℤ → Phase → TypeName → List TreeClause → List Token → Parsed (List TreeClause)
clause_of_type methods vars maxint phase type clauses tokens = do
  result ← result_name_at vars phase type.kind tokens
  method ← method_at methods vars clauses phase type.desc result.1
  clause_of_method (scope_of vars phase method.0.1 result.0 type.kind) maxint method.0.0 phase method.0.1 type.kind clauses method.1

-- another of at most 64 clauses
unfoldable pub clause_at : List ListedMethod → List Var → ℤ → List TreeClause → List Token → Parsed (List TreeClause)
clause_at methods vars maxint clauses tokens = do
  few ← need (nat_lt (length clauses) 64) (Limit (front_at tokens))
  phase ← ok_or (next_phase tokens) (Syntax (front_at tokens))
  type ← type_at true (drop 1 tokens)
  clause_of_type methods vars maxint phase type.0 clauses type.1
