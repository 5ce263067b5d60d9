-- Policies as they are written: the grammar. (docs/POLICIES.md)
use Rattle.std.specs.Prelude.{ℕ, zero, suc, Bool, true, false, List, [], ◌∷◌, ◌++◌, codes, Option, Some, None}
use Rattle.std.specs.List.{flat_map}
use Rattle.conspec_tokens.specs.declared.token.Lexeme.{Lexeme}
use Rattle.conspec_tokens.specs.declared.token.Lexeme.TheVariants.{Quoted, Name, Number, End}
use Rattle.conspec_tree.specs.declared.types.Phase.{Phase}
use Rattle.conspec_tree.specs.declared.types.Phase.TheVariants.{Before, After, Exceptional}
use Rattle.conspec_tree.specs.declared.types.Rel.{Rel}
use Rattle.conspec_tree.specs.declared.types.Rel.TheVariants as rels

-- ---- what is written

-- a keyword, or a class by its names, of which the first stands apart
pub data Element : Type 0 where
  Void : Element
  Int : Element
  Boolean : Element
  Byte : Element
  Short : Element
  Char : Element
  Class : List ℕ → List (List ℕ) → Element

-- a type, with a pair of brackets for each dimension
pub record WrittenType : Type 0 where
  pub element : Element
  pub dimensions : ℕ

pub record WrittenParam : Type 0 where
  pub type : WrittenType
  pub name : Option (List ℕ)

pub data MethodName : Type 0 where
  Constructor : MethodName
  Plain : List ℕ → MethodName

pub data Constant : Type 0 where
  Truth : Bool → Constant
  Natural : ℕ → Constant
  Minus : ℕ → Constant

pub record WrittenAtom : Type 0 where
  pub name : List ℕ
  pub rel : Rel
  pub constant : Constant

-- what stands after `=`: a constant, or a name, whether `-` stands after it, and a number
pub data Right : Type 0 where
  Value : Constant → Right
  Sum : List ℕ → Bool → ℕ → Right

pub record WrittenUpdate : Type 0 where
  pub name : List ℕ
  pub right : Right

-- branches of atoms, of which the first stands apart; no atoms are `true`
pub record WrittenGuard : Type 0 where
  pub first : List WrittenAtom
  pub others : List (List WrittenAtom)
  pub updates : List WrittenUpdate

pub record WrittenClause : Type 0 where
  pub phase : Phase
  pub type : WrittenType
  pub result : Option (List ℕ)
  pub class : List (List ℕ)
  pub method : MethodName
  pub params : List WrittenParam
  pub guards : List WrittenGuard
  pub otherwise : Option (List WrittenUpdate)

pub record WrittenVar : Type 0 where
  pub is_bool : Bool
  pub name : List ℕ
  pub first : ℕ

pub record Written : Type 0 where
  pub maxint : ℕ
  pub vars : List WrittenVar
  pub clauses : List WrittenClause

-- ---- how it is encoded

-- each part with the sign before it
abbrev pub led : {X : Type 0} → List ℕ → (X → List Lexeme) → List X → List Lexeme
led sign encode parts = flat_map (λ part. Quoted sign ∷ encode part) parts

-- parts with the sign between them
abbrev pub separated : {X : Type 0} → List ℕ → (X → List Lexeme) → List X → List Lexeme
separated sign encode [] = []
separated sign encode (x ∷ parts) = encode x ++ led sign encode parts

abbrev pub one_name : List ℕ → List Lexeme
one_name name = Name name ∷ []

abbrev pub dotted : List ℕ → List Lexeme
dotted name = Name name ∷ Quoted (codes ".") ∷ []

abbrev pub element_encoded : Element → List Lexeme
element_encoded Void = Quoted (codes "void") ∷ []
element_encoded Int = Quoted (codes "int") ∷ []
element_encoded Boolean = Quoted (codes "boolean") ∷ []
element_encoded Byte = Quoted (codes "byte") ∷ []
element_encoded Short = Quoted (codes "short") ∷ []
element_encoded Char = Quoted (codes "char") ∷ []
element_encoded (Class first others) = Name first ∷ led (codes ".") one_name others

abbrev pub brackets_encoded : ℕ → List Lexeme
brackets_encoded zero = []
brackets_encoded (suc n) = Quoted (codes "[") ∷ Quoted (codes "]") ∷ brackets_encoded n

abbrev pub type_encoded : WrittenType → List Lexeme
type_encoded t = element_encoded t.element ++ brackets_encoded t.dimensions

abbrev pub name_encoded : Option (List ℕ) → List Lexeme
name_encoded None = []
name_encoded (Some name) = Name name ∷ []

abbrev pub param_encoded : WrittenParam → List Lexeme
param_encoded p = type_encoded p.type ++ name_encoded p.name

abbrev pub rel_encoded : Rel → Lexeme
rel_encoded rels.Eq = Quoted (codes "==")
rel_encoded rels.Ne = Quoted (codes "!=")
rel_encoded rels.Lt = Quoted (codes "<")
rel_encoded rels.Le = Quoted (codes "<=")
rel_encoded rels.Gt = Quoted (codes ">")
rel_encoded rels.Ge = Quoted (codes ">=")

abbrev pub truth_encoded : Bool → Lexeme
truth_encoded true = Quoted (codes "true")
truth_encoded false = Quoted (codes "false")

abbrev pub constant_encoded : Constant → List Lexeme
constant_encoded (Truth b) = truth_encoded b ∷ []
constant_encoded (Natural n) = Number n ∷ []
constant_encoded (Minus n) = Quoted (codes "-") ∷ Number n ∷ []

abbrev pub atom_encoded : WrittenAtom → List Lexeme
atom_encoded a = Name a.name ∷ rel_encoded a.rel ∷ constant_encoded a.constant

abbrev pub conj_encoded : List WrittenAtom → List Lexeme
conj_encoded [] = Quoted (codes "true") ∷ []
conj_encoded (a ∷ atoms) = separated (codes "&&") atom_encoded (a ∷ atoms)

abbrev pub sign_encoded : Bool → Lexeme
sign_encoded false = Quoted (codes "+")
sign_encoded true = Quoted (codes "-")

abbrev pub right_encoded : Right → List Lexeme
right_encoded (Value c) = constant_encoded c
right_encoded (Sum name minus n) = Name name ∷ sign_encoded minus ∷ Number n ∷ []

abbrev pub update_encoded : WrittenUpdate → List Lexeme
update_encoded u = Name u.name ∷ Quoted (codes "=") ∷ (right_encoded u.right ++ Quoted (codes ";") ∷ [])

-- `->` and the updates between braces
abbrev pub block_encoded : List WrittenUpdate → List Lexeme
block_encoded updates = Quoted (codes "->") ∷ Quoted (codes "{") ∷ (flat_map update_encoded updates ++ Quoted (codes "}") ∷ [])

abbrev pub guard_encoded : WrittenGuard → List Lexeme
guard_encoded g = conj_encoded g.first ++ (led (codes "||") conj_encoded g.others ++ block_encoded g.updates)

abbrev pub else_encoded : Option (List WrittenUpdate) → List Lexeme
else_encoded None = []
else_encoded (Some updates) = Quoted (codes "ELSE") ∷ block_encoded updates

abbrev pub phase_encoded : Phase → Lexeme
phase_encoded Before = Quoted (codes "BEFORE")
phase_encoded After = Quoted (codes "AFTER")
phase_encoded Exceptional = Quoted (codes "EXCEPTIONAL")

abbrev pub result_encoded : Option (List ℕ) → List Lexeme
result_encoded None = []
result_encoded (Some name) = Name name ∷ Quoted (codes "=") ∷ []

abbrev pub method_encoded : MethodName → Lexeme
method_encoded Constructor = Quoted (codes "<init>")
method_encoded (Plain name) = Name name

-- the names of the class, each with a dot, and the method's name
abbrev pub path_encoded : List (List ℕ) → MethodName → List Lexeme
path_encoded class method = flat_map dotted class ++ method_encoded method ∷ []

abbrev pub params_encoded : List WrittenParam → List Lexeme
params_encoded params = separated (codes ",") param_encoded params

abbrev pub signature_encoded : List (List ℕ) → MethodName → List WrittenParam → List Lexeme
signature_encoded class method params = path_encoded class method ++ Quoted (codes "(") ∷ (params_encoded params ++ Quoted (codes ")") ∷ [])

abbrev pub body_encoded : List WrittenGuard → Option (List WrittenUpdate) → List Lexeme
body_encoded guards otherwise = flat_map guard_encoded guards ++ else_encoded otherwise

abbrev pub clause_encoded : WrittenClause → List Lexeme
clause_encoded c =
    phase_encoded c.phase ∷ (type_encoded c.type
    ++ (result_encoded c.result ++ (signature_encoded c.class c.method c.params ++ Quoted (codes "PERFORM") ∷ body_encoded c.guards c.otherwise)))

abbrev pub first_encoded : Bool → ℕ → Lexeme
first_encoded false n = Number n
first_encoded true zero = truth_encoded false
first_encoded true (suc n) = truth_encoded true

abbrev pub variable_word : Bool → Lexeme
variable_word false = Quoted (codes "int")
variable_word true = Quoted (codes "bool")

abbrev pub variable_encoded : WrittenVar → List Lexeme
variable_encoded v = variable_word v.is_bool ∷ Name v.name ∷ Quoted (codes "=") ∷ first_encoded v.is_bool v.first ∷ Quoted (codes ";") ∷ []

abbrev pub header_encoded : ℕ → List Lexeme
header_encoded maxint =
    Quoted (codes "MAXINT") ∷ Number maxint ∷ Quoted (codes "SCOPE") ∷ Quoted (codes "Session")
    ∷ Quoted (codes "SECURITY") ∷ Quoted (codes "STATE") ∷ []

-- the tokens of a policy
abbrev pub policy_encoded : Written → List Lexeme
policy_encoded p = header_encoded p.maxint ++ (flat_map variable_encoded p.vars ++ (flat_map clause_encoded p.clauses ++ End ∷ []))
