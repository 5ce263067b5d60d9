-- The method of a clause: its class and name, its parameters, and which listed method it is. (docs/POLICIES.md)
use Rattle.std.specs.Prelude.{◌||◌, not, ℕ, Bool, true, false, List, [], ◌∷◌, ◌++◌, length, drop, codes, bytes_eq, nat_le, Option, Some, None, ok_or, Ok, Err, if◌then◌else◌}
use Rattle.std.specs.List.{flat_map}
use Rattle.mon_base.specs.Reading.{◌>>=◌, need}
use Rattle.api_listing.specs.BuiltIn.{is_built_in}
use Rattle.api_listing.specs.Nearest.{declared_in}
use Rattle.api_listing.specs.declared.types.ListedMethod.{ListedMethod}
use Rattle.conspec_tokens.specs.declared.token.Token.{Token}
use Rattle.conspec_tree.specs.declared.types.Phase.{Phase}
use Rattle.conspec_tree.specs.declared.types.Var.{Var}
use Rattle.conspec_tree.specs.declared.types.TreeClause.{TreeClause}
use Rattle.conspec_parse.specs.declared.signature.Param.{Param}
use Rattle.conspec_parse.specs.declared.signature.Path.{Path}
use Rattle.conspec_parse.specs.declared.signature.Parts.{Parts}
use Rattle.conspec_parse.specs.declared.signature.Signature.{Signature}
use Rattle.conspec_parse.specs.declared.fault.PolicyFault.TheVariants.{Syntax, NoMethod, Twice, Limit, Builtin}
use Rattle.conspec_parse.specs.Fault.{Judged}
use Rattle.conspec_parse.specs.Forms.{Parsed, following, name_at, is_short, each}
use Rattle.conspec_tokens.specs.Front.{front_at, is_next, is_name}
use Rattle.conspec_tree.specs.Clauses.{has_clause}
use Rattle.conspec_tree.specs.Kinds.{kind_or_object}
use Rattle.conspec_tree.specs.Variables.{is_variable}
use Rattle.conspec_parse.specs.Types.{judged_name, type_at}

-- ---- parameters

abbrev pub is_named : Option (List ℕ) → List ℕ → Bool
is_named None name = false
is_named (Some word) name = bytes_eq word name

abbrev pub is_parameter : List Param → List ℕ → Bool
is_parameter [] name = false
is_parameter (p ∷ params) name = is_named p.name name || is_parameter params name

-- whether the name may be that of a further parameter
abbrev pub is_free : List Var → List Param → List ℕ → Bool
is_free vars params name = not (is_variable vars name || is_parameter params name)

unfoldable pub given_name_at : Bool → List Var → List Param → List Token → Parsed (List ℕ)
given_name_at judged vars params tokens = do
  name ← name_at tokens
  once ← need (not judged || is_free vars params name.0) (Twice (front_at tokens))
  short ← need (not judged || is_short name.0) (Limit (front_at tokens))
  Ok name

abbrev pub given_parameter_at : Bool → List Var → List Param → List Token → Parsed (Option (List ℕ))
given_parameter_at judged vars params tokens = given_name_at judged vars params tokens >>= λ name. Ok (Some name.0, name.1)

-- a parameter's name, where it has one
abbrev pub parameter_name_at : Bool → List Var → List Param → List Token → Parsed (Option (List ℕ))
parameter_name_at judged vars params tokens =
    if is_name tokens then given_parameter_at judged vars params tokens else Ok (None, tokens)

-- a parameter more
unfoldable pub parameter_at : Bool → List Var → List Param → List Token → Parsed (List Param)
parameter_at judged vars params tokens = do
  type ← type_at judged tokens
  name ← parameter_name_at judged vars params type.1
  Ok (params ++ (record { name = name.0; desc = type.0.desc; kind = kind_or_object type.0.kind }) ∷ [], name.1)

unfoldable pub next_parameter : Bool → List Var → List Param → List Token → Parsed (List Param)
next_parameter judged vars params tokens = do
  comma ← following (codes ",") tokens
  parameter_at judged vars params comma

unfoldable pub some_parameters : Bool → List Var → List Token → Parsed (List Param)
some_parameters judged vars tokens = do
  first ← parameter_at judged vars [] tokens
  each (is_next (codes ",")) (next_parameter judged vars) first.0 first.1

abbrev pub parameters_at : Bool → List Var → List Token → Parsed (List Param)
parameters_at judged vars tokens = if is_next (codes ")") tokens then Ok ([], tokens) else some_parameters judged vars tokens

-- the parameters between brackets
unfoldable pub bracketed : Bool → List Var → List Token → Parsed (List Param)
bracketed judged vars tokens = do
  opened ← following (codes "(") tokens
  params ← parameters_at judged vars opened
  closed ← following (codes ")") params.1
  Ok (params.0, closed)

-- ---- the class and the name

abbrev pub init : List ℕ
init = codes "<init>"

-- the name of a class's part or of a method
abbrev pub part_at : Bool → List Token → Parsed (List ℕ)
part_at judged tokens = if is_next init tokens then Ok (init, drop 1 tokens) else judged_name judged tokens

-- the class with one part more
abbrev pub class_under : Option (List ℕ) → List ℕ → List ℕ
class_under None name = name
class_under (Some class) name = class ++ 47 ∷ name

-- a dot and a further part. Nothing stands below a constructor.
unfoldable pub next_step : Bool → Parts → List Token → Parsed Parts
next_step judged parts tokens = do
  below ← need (not parts.is_last) (Syntax (front_at tokens))
  dot ← following (codes ".") tokens
  part ← part_at judged dot
  Ok (record { class = Some (class_under parts.class parts.name); name = part.0; is_last = is_next init dot }, part.1)

-- a class, a dot and a method's name
unfoldable pub path_at : Bool → List Token → Parsed Path
path_at judged tokens = do
  first ← judged_name judged tokens
  parts ← each (is_next (codes ".")) (next_step judged) (record { class = None; name = first.0; is_last = false }) first.1
  class ← ok_or parts.0.class (Syntax (front_at parts.1))
  Ok (record { class = class; name = parts.0.name }, parts.1)

unfoldable pub signature_at : Bool → List Var → List Token → Parsed Signature
signature_at judged vars tokens = do
  path ← path_at judged tokens
  opened ← following (codes "(") path.1
  params ← parameters_at judged vars opened
  closed ← following (codes ")") params.1
  Ok (record { path = path.0; params = params.0 }, closed)

-- ---- which method it is

-- the descriptor of a method with the parameters and the result
abbrev pub desc_of : List Param → List ℕ → List ℕ
desc_of params result = 40 ∷ (flat_map (λ p. p.desc) params ++ 41 ∷ result)

-- The listed method with this class, name and descriptor, which stands at a token. It has no clause of the phase yet, and no method
-- has more than 255 parameters.
unfoldable pub index_at : List ListedMethod → List TreeClause → Phase → ℕ → Signature → List ℕ → Judged ℕ
index_at methods clauses phase at signature desc = do
  given ← need (not (is_built_in signature.path.class signature.path.name desc)) (Builtin at)
  method ← ok_or (declared_in methods signature.path.name desc signature.path.class) (NoMethod at)
  narrow ← need (nat_le (length signature.params) 255) (NoMethod at)
  once ← need (not (has_clause clauses phase method)) (Twice at)
  Ok method

-- What is wrong with the whole method stands at its first token, before what is wrong with a name in it.
abbrev pub listed_method : List ListedMethod → List Var → List TreeClause → Phase → List ℕ → List Token → Parsed Signature → Parsed (ℕ × List Param)
listed_method methods vars clauses phase result tokens (Ok read) =
    index_at methods clauses phase (front_at tokens) read.0 (desc_of read.0.params result)
    >>= λ method. signature_at true vars tokens >>= λ judged. Ok ((method, read.0.params), judged.1)
listed_method methods vars clauses phase result tokens (Err fault) = signature_at true vars tokens >>= λ read. Err fault

-- a method and its parameters
abbrev pub method_at : List ListedMethod → List Var → List TreeClause → Phase → List ℕ → List Token → Parsed (ℕ × List Param)
method_at methods vars clauses phase result tokens =
    listed_method methods vars clauses phase result tokens (signature_at false vars tokens)
