-- What a written policy says, and which policy a text encodes. (docs/POLICIES.md)
use Rattle.std.specs.Prelude.{◌≡◌, ◌≢◌, ℕ, zero, suc, ◌+◌, ◌≤◌, ℤ, pos, neg_ℤ, ◌≤ℤ◌, Bool, true, false, List, [], ◌∷◌, ◌++◌, length, map, replicate, codes, Option, Some, None, IsTrue, AllPairs}
use Rattle.std.specs.List.{AllByRecursion, flat_map}
use Rattle.api_listing.specs.BuiltIn.{is_built_in}
use Rattle.api_listing.specs.Nearest.{declared_in}
use Rattle.api_listing.specs.Descriptor.{class_encoded}
use Rattle.api_listing.specs.declared.types.ListedMethod.{ListedMethod}
use Rattle.api_listing.specs.declared.types.Listing.{Listing}
use Rattle.conspec_tokens.specs.declared.token.Token.{Token}
use Rattle.conspec_tokens.specs.declared.token.Lexeme.{Lexeme}
use Rattle.conspec_tree.specs.declared.types.Atom.{Atom}
use Rattle.conspec_tree.specs.declared.types.Kind.{Kind}
use Rattle.conspec_tree.specs.declared.types.Kind.TheVariants as kinds
use Rattle.conspec_tree.specs.declared.types.Phase.{Phase}
use Rattle.conspec_tree.specs.declared.types.Phase.TheVariants as phases
use Rattle.conspec_tree.specs.declared.types.Update.{Update}
use Rattle.conspec_tree.specs.declared.types.Update.TheVariants.{Set, Add}
use Rattle.conspec_tree.specs.declared.types.Var.{Var}
use Rattle.conspec_tree.specs.declared.types.Guard.{Guard}
use Rattle.conspec_tree.specs.declared.types.TreeClause.{TreeClause}
use Rattle.conspec_tree.specs.declared.types.PolicyTree.{PolicyTree}
use Rattle.conspec_parse.specs.declared.signature.Param.{Param}
use Rattle.conspec_tokens.specs.Tokens.{tokens_of}
use Rattle.conspec_parse.specs.Forms.{is_short}
use Rattle.conspec_tree.specs.Variables.{variable_from, is_variable}
use Rattle.conspec_parse.specs.Methods.{init, desc_of}
use Rattle.conspec_tree.specs.Kinds.{kind_or_object}
use Rattle.conspec_parse.specs.Scope.{Scope, base_named}
use Rattle.conspec_tree.specs.Kinds.{is_truth, is_number}
use Rattle.conspec_parse.specs.Guards.{}
use Rattle.conspec_tree.specs.Kinds.{is_equality}
use Rattle.conspec_tree.specs.Updates.{target, all_range_atoms}
use Rattle.conspec_parse.specs.Updates.{signed}
use Rattle.conspec_tree.specs.Guards.{branches}
use Rattle.conspec_parse.specs.Clauses.{scope_of, clause_of}
use Rattle.conspec_tree.specs.Tree.{Differ}
use Rattle.conspec_parse.specs.Written.{Element, WrittenType, WrittenParam, MethodName, Constant, WrittenAtom, Right, WrittenUpdate, WrittenGuard, WrittenClause, WrittenVar, Written, policy_encoded}
use Rattle.conspec_parse.specs.Written.Element.{Void, Int, Boolean, Byte, Short, Char, Class}
use Rattle.conspec_parse.specs.Written.MethodName.{Constructor, Plain}
use Rattle.conspec_parse.specs.Written.Constant.{Truth, Natural, Minus}
use Rattle.conspec_parse.specs.Written.Right.{Value, Sum}

-- The lists are equally long, and what stands at one place in both is related.
abbrev pub EachIs : {X Y : Type 0} → (X → Y → Type 0) → List X → List Y → Type 0
EachIs Is [] [] = Unit {0}
EachIs Is [] (y ∷ ys) = ⊥
EachIs Is (x ∷ xs) [] = ⊥
EachIs Is (x ∷ xs) (y ∷ ys) = Is x y × EachIs Is xs ys

abbrev pub AreShort : List (List ℕ) → Type 0
AreShort names = AllByRecursion (λ name. IsTrue (is_short name)) names

-- ---- types and parameters

-- a name after a `/`
abbrev pub below : List ℕ → List ℕ
below name = 47 ∷ name

-- names as a descriptor has them, with `/` between
abbrev pub joined : List (List ℕ) → List ℕ
joined [] = []
joined (first ∷ others) = first ++ flat_map below others

abbrev pub element_desc : Element → List ℕ
element_desc Void = codes "V"
element_desc Int = codes "I"
element_desc Boolean = codes "Z"
element_desc Byte = codes "B"
element_desc Short = codes "S"
element_desc Char = codes "C"
element_desc (Class first others) = class_encoded (joined (first ∷ others))

abbrev pub element_kind : Element → Option Kind
element_kind Void = None
element_kind Int = Some kinds.Int
element_kind Boolean = Some kinds.Bool
element_kind Byte = Some kinds.Byte
element_kind Short = Some kinds.Short
element_kind Char = Some kinds.Char
element_kind (Class first others) = Some kinds.Object

abbrev pub type_desc : WrittenType → List ℕ
type_desc t = replicate t.dimensions 91 ++ element_desc t.element

-- An array is an object, and `void` alone has no kind.
abbrev pub kind_in : ℕ → Element → Option Kind
kind_in zero element = element_kind element
kind_in (suc n) element = Some kinds.Object

abbrev pub type_kind : WrittenType → Option Kind
type_kind t = kind_in t.dimensions t.element

abbrev pub param_of : WrittenParam → Param
param_of p = record { name = p.name; desc = type_desc p.type; kind = kind_or_object (type_kind p.type) }

abbrev pub element_names : Element → List (List ℕ)
element_names (Class first others) = first ∷ others
element_names other = []

abbrev pub optional : Option (List ℕ) → List (List ℕ)
optional None = []
optional (Some name) = name ∷ []

abbrev pub names_of_param : WrittenParam → List (List ℕ)
names_of_param p = element_names p.type.element ++ optional p.name

abbrev pub param_names : List WrittenParam → List (List ℕ)
param_names params = flat_map (λ (p : WrittenParam). optional p.name) params

-- The names of the parameters differ from each other and from the variables', and no name in them is too long.
pub record AreParams (vars : List Var) (written : List WrittenParam) : Type 0 where
  pub once : AllPairs (λ a b. a ≢ b) (param_names written)
  pub own : AllByRecursion (λ name. is_variable vars name ≡ false) (param_names written)
  pub short : AllByRecursion (λ p. AreShort (names_of_param p)) written

-- ---- guards

abbrev pub truth_value : Bool → ℤ
truth_value true = pos 1
truth_value false = pos 0

abbrev pub value_of : Constant → ℤ
value_of (Truth b) = truth_value b
value_of (Natural n) = pos n
value_of (Minus n) = neg_ℤ (pos n)

-- a truth value, or a number of 32 bits
abbrev pub IsConstant : Bool → Constant → Type 0
IsConstant true (Truth b) = Unit {0}
IsConstant false (Natural n) = n ≤ 2147483647
IsConstant false (Minus n) = n ≤ 2147483648
IsConstant truth other = ⊥

-- An atom names what may be asked; a truth value is equal to one or not, and a number is compared with one of 32 bits.
pub record IsAtom (scope : Scope) (written : WrittenAtom) (atom : Atom) : Type 0 where
  pub kind : Kind
  pub named : base_named scope written.name ≡ Some (atom.base, kind)
  pub asked : is_number kind ≡ true
  pub related : atom.rel ≡ written.rel
  pub equal : is_truth kind ≡ true → is_equality written.rel ≡ true
  pub fits : IsConstant (is_truth kind) written.constant
  pub value : atom.value ≡ value_of written.constant

-- The variable with the name is set to a value of its kind and range.
pub record IsSet (maxint : ℤ) (truth : Bool) (constant : Constant) (value : ℤ) : Type 0 where
  pub fits : IsConstant truth constant
  pub value_is : value ≡ value_of constant
  pub low : pos 0 ≤ℤ value
  pub high : value ≤ℤ maxint

-- An int variable is added to, or taken from.
pub record IsSum (name other : List ℕ) (truth minus : Bool) (n : ℕ) (by : ℤ) : Type 0 where
  pub own : other ≡ name
  pub number : truth ≡ false
  pub by_is : by ≡ signed minus n
  pub high : n ≤ 1000000000

abbrev pub IsRight : ℤ → List ℕ → Bool → Right → Update → Type 0
IsRight maxint name truth (Value c) (Set var value) = IsSet maxint truth c value
IsRight maxint name truth (Sum other minus n) (Add var by) = IsSum name other truth minus n by
IsRight maxint name truth right other = ⊥

pub record IsUpdate (vars : List Var) (maxint : ℤ) (written : WrittenUpdate) (update : Update) : Type 0 where
  pub truth : Bool
  pub named : variable_from 0 vars written.name ≡ Some (target update, truth)
  pub right : IsRight maxint written.name truth written.right update

-- Each variable is updated once, and no branch has more than 16 atoms with the range atoms of the updates.
pub record IsBlock (vars : List Var) (maxint : ℤ) (written : List WrittenUpdate) (guard : Guard) : Type 0 where
  pub updates : EachIs (IsUpdate vars maxint) written guard.updates
  pub once : AllPairs (λ u w. target u ≢ target w) guard.updates
  pub short : AllByRecursion (λ conj. length conj + all_range_atoms guard.updates ≤ 16) guard.conjs

pub record IsGuard (scope : Scope) (maxint : ℤ) (written : WrittenGuard) (guard : Guard) : Type 0 where
  pub conjs : EachIs (EachIs (IsAtom scope)) (written.first ∷ written.others) guard.conjs
  pub block : IsBlock scope.vars maxint written.updates guard

-- ELSE is a last guard with one empty list of atoms.
abbrev pub IsOtherwise : List Var → ℤ → Option (List WrittenUpdate) → List Guard → Type 0
IsOtherwise vars maxint None guards = guards ≡ []
IsOtherwise vars maxint (Some updates) [] = ⊥
IsOtherwise vars maxint (Some updates) (g ∷ guards) = (guards ≡ []) × ((g.conjs ≡ [] ∷ []) × IsBlock vars maxint updates g)

pub record AreGuards (scope : Scope) (maxint : ℤ) (written : List WrittenGuard) (otherwise : Option (List WrittenUpdate)) (guards : List Guard) : Type 0 where
  pub asking : List Guard
  pub last : List Guard
  pub parts : guards ≡ asking ++ last
  pub guarded : EachIs (IsGuard scope maxint) written asking
  pub other : IsOtherwise scope.vars maxint otherwise last
  pub few : branches guards ≤ 64

-- ---- clauses

-- A result has a name only at the return of a method that gives one, and no variable has it.
pub record IsResult (vars : List Var) (phase : Phase) (kind : Option Kind) (name : List ℕ) : Type 0 where
  pub at_return : phase ≡ phases.After
  pub given : kind ≢ None
  pub own : is_variable vars name ≡ false
  pub short : IsTrue (is_short name)

abbrev pub MayName : List Var → Phase → Option Kind → Option (List ℕ) → Type 0
MayName vars phase kind None = Unit {0}
MayName vars phase kind (Some name) = IsResult vars phase kind name

abbrev pub method_bytes : MethodName → List ℕ
method_bytes Constructor = init
method_bytes (Plain name) = name

abbrev pub method_names : MethodName → List (List ℕ)
method_names Constructor = []
method_names (Plain name) = name ∷ []

-- The method is listed with the class, name and descriptor that are written, and it is not built in.
pub record IsMethodIn (methods : List ListedMethod) (class : List (List ℕ)) (name : MethodName) (params : List WrittenParam) (result : List ℕ) (method : ℕ) : Type 0 where
  pub listed : declared_in methods (method_bytes name) (desc_of (map param_of params) result) (joined class) ≡ Some method
  pub client : is_built_in (joined class) (method_bytes name) (desc_of (map param_of params) result) ≡ false
  pub within : class ≢ []
  pub narrow : length params ≤ 255

pub record IsClause (methods : List ListedMethod) (vars : List Var) (maxint : ℤ) (written : WrittenClause) (clause : TreeClause) : Type 0 where
  pub method : IsMethodIn methods written.class written.method written.params (type_desc written.type) clause.method
  pub result : MayName vars written.phase (type_kind written.type) written.result
  pub params : AreParams vars written.params
  pub short_type : AreShort (element_names written.type.element)
  pub short_class : AreShort written.class
  pub short_method : AreShort (method_names written.method)
  pub guards : AreGuards (scope_of vars written.phase (map param_of written.params) written.result (type_kind written.type)) maxint
      written.guards written.otherwise clause.guards
  pub is : clause ≡ clause_of clause.method written.phase (map param_of written.params) (type_kind written.type) clause.guards

-- ---- policies

abbrev pub IsFirst : ℤ → Bool → ℕ → Type 0
IsFirst maxint true n = n ≤ 1
IsFirst maxint false n = pos n ≤ℤ maxint

pub record IsVar (maxint : ℤ) (written : WrittenVar) (var : Var) : Type 0 where
  pub is : var ≡ record { name = written.name; is_bool = written.is_bool; first = pos written.first }
  pub short : IsTrue (is_short written.name)
  pub ranged : IsFirst maxint written.is_bool written.first

pub record IsPolicy (listing : Listing) (written : Written) (tree : PolicyTree) : Type 0 where
  pub maxint : tree.maxint ≡ pos written.maxint
  pub low : 1 ≤ written.maxint
  pub high : written.maxint ≤ 1000000000
  pub vars : EachIs (IsVar tree.maxint) written.vars tree.vars
  pub few_vars : length tree.vars ≤ 16
  pub var_names : AllPairs (λ v w. v.name ≢ w.name) tree.vars
  pub clauses : EachIs (IsClause listing.methods tree.vars tree.maxint) written.clauses tree.clauses
  pub few_clauses : length tree.clauses ≤ 64
  pub once : AllPairs Differ tree.clauses

-- the tokens without their places
abbrev pub lexemes : List Token → List Lexeme
lexemes tokens = map (λ t. t.lexeme) tokens

-- The tokens of the text are those of a written policy, which says the tree.
pub record EncodesPolicy (text : List ℕ) (listing : Listing) (tree : PolicyTree) : Type 0 where
  pub written : Written
  pub tokens : lexemes (tokens_of text) ≡ policy_encoded written
  pub says : IsPolicy listing written tree
