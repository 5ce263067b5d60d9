-- How many of a text's tokens decide which fault it has. (docs/POLICIES.md)
use Rattle.std.specs.Prelude.{◌≡◌, ◌≢◌, ◌<◌, ◌≤◌, ℕ, Bool, true, false, List, [], ◌∷◌, ◌++◌, codes, None, Err, if◌then◌else◌}
use Rattle.std.specs.List.{AllByRecursion}
use Rattle.api_listing.specs.declared.types.Listing.{Listing}
use Rattle.conspec_tokens.specs.declared.token.Lexeme.{Lexeme}
use Rattle.conspec_tokens.specs.declared.token.Token.{Token}
use Rattle.conspec_tree.specs.declared.types.Phase.TheVariants.{After}
use Rattle.conspec_parse.specs.declared.fault.PolicyFault.{PolicyFault}
use Rattle.conspec_parse.specs.declared.fault.PolicyFault.TheVariants as faults
use Rattle.conspec_tokens.specs.Front.{quotes}
use Rattle.conspec_parse.specs.Clauses.{begins_clause}
use Rattle.conspec_tokens.specs.Tokens.{tokens_of}
use Rattle.conspec_parse.specs.Policy.{reading}
use Rattle.conspec_parse.specs.Meaning.{lexemes}
use Rattle.conspec_parse.specs.Written.{Written, WrittenClause, policy_encoded}

-- whether a method is still to be ended after the token: BEFORE, AFTER or EXCEPTIONAL begins one, and `)` ends it
abbrev pub opened_by : Bool → Token → Bool
opened_by now t =
    if quotes (codes ")") t.lexeme then false
    else if begins_clause (t ∷ []) then true
    else now

abbrev pub is_open_from : Bool → List Token → Bool
is_open_from now [] = now
is_open_from now (t ∷ tokens) = is_open_from (opened_by now t) tokens

-- BEFORE, AFTER or EXCEPTIONAL stands there, and after the last of them no `)`.
abbrev pub is_open : List Token → Bool
is_open tokens = is_open_from false tokens

-- The tokens up to and with the last decide the fault. Faults of syntax and of names are decided by the token where they stand. Those of
-- kinds and ranges hang on one token more at most: a name is that of a result where `=` stands after it, and `-` is part of the number after it. The others may
-- stand in a method, which is judged as a whole before the names in it are, so they hang on its `)`; outside of methods they, too, hang
-- on one token more at most.
abbrev pub Decides : PolicyFault → List Token → Token → Type 0
Decides (faults.Syntax at) before last = at ≤ last.at
Decides (faults.Name at) before last = at ≤ last.at
Decides (faults.Kind at) before last = at < last.at
Decides (faults.Range at) before last = at < last.at
Decides (faults.NoMethod at) before last = (at < last.at) × (is_open (before ++ last ∷ []) ≡ false)
Decides (faults.Twice at) before last = (at < last.at) × (is_open (before ++ last ∷ []) ≡ false)
Decides (faults.Limit at) before last = (at < last.at) × (is_open (before ++ last ∷ []) ≡ false)
Decides (faults.Builtin at) before last = (at < last.at) × (is_open (before ++ last ∷ []) ≡ false)
Decides faults.Memory before last = ⊥

-- Texts that agree up to the token that decides have the same fault.
abbrev pub FaultsAreDecided : Type 0
FaultsAreDecided =
    (one other : List ℕ) (listing : Listing) (fault : PolicyFault) (before following others : List Token) (last : Token)
    → reading one listing ≡ Err fault → Decides fault before last
    → tokens_of one ≡ before ++ last ∷ following → tokens_of other ≡ before ++ last ∷ others
    → reading other listing ≡ Err fault

-- ---- faults of syntax

-- A method is written with its class, and a result only after AFTER.
pub record IsInGrammar (clause : WrittenClause) : Type 0 where
  pub class : clause.class ≢ []
  pub result : clause.result ≢ None → clause.phase ≡ After

-- The tokens before the one at the place begin a policy of the grammar.
pub record BeginsPolicy (tokens : List Token) (at : ℕ) : Type 0 where
  pub before : List Token
  pub here : Token
  pub following : List Token
  pub split : tokens ≡ before ++ here ∷ following
  pub there : here.at ≡ at
  pub written : Written
  pub whole : AllByRecursion IsInGrammar written.clauses
  pub more : List Lexeme
  pub encoded : policy_encoded written ≡ lexemes before ++ more

-- Before a fault of syntax stands the beginning of a written policy.
abbrev pub BeginningsAreRight : Type 0
BeginningsAreRight =
    (text : List ℕ) (listing : Listing) (at : ℕ) → reading text listing ≡ Err (faults.Syntax at) → BeginsPolicy (tokens_of text) at
