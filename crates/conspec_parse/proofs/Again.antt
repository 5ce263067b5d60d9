-- What is encoded is read: names, types, parameters and methods.
use Rattle.std.proofs.Common.{◌≡◌, ℕ, zero, suc, true, false, cond, List, [], ◌∷◌, ◌++◌, map, drop, replicate, Option, Some, None, refl, sym, ap, subst, ◌∙◌, arith, append_assoc}
use Rattle.std.specs.Prelude.{is_some, not, codes, IsTrue, ◌||◌}
use Rattle.std.specs.List.{flat_map}
use Rattle.std.proofs.lemmas.List.{append-nil}
use Rattle.api_listing.specs.Descriptor.{class_encoded}
use Rattle.conspec_tokens.specs.declared.token.Lexeme.{Lexeme}
use Rattle.conspec_tokens.specs.declared.token.Lexeme.TheVariants.{Quoted, Name}
use Rattle.conspec_tokens.specs.declared.token.Token.{Token}
use Rattle.conspec_tree.specs.declared.types.Kind.TheVariants as kinds
use Rattle.conspec_tree.specs.declared.types.Var.{Var}
use Rattle.conspec_parse.specs.declared.type_name.TypeName.{TypeName}
use Rattle.conspec_parse.specs.declared.signature.Param.{Param}
use Rattle.conspec_parse.specs.declared.fault.PolicyFault.TheVariants.{Twice, Limit}
use Rattle.conspec_tokens.specs.Front.{front_at, is_next, is_name}
use Rattle.conspec_parse.specs.Forms.{is_short}
use Rattle.conspec_parse.specs.Types.{judged_name, type_named, plain_type, next_part, class_at, class_type_at, element_at, dimension_at, array_of, type_at}
use Rattle.conspec_tree.specs.Variables.{is_variable}
use Rattle.conspec_parse.specs.Methods.{is_parameter, is_free, given_name_at, parameter_name_at, parameter_at, next_parameter, some_parameters, parameters_at}
use Rattle.conspec_parse.specs.Written.{Element, WrittenType, WrittenParam, led, one_name, element_encoded, brackets_encoded, type_encoded, name_encoded, param_encoded, params_encoded}
use Rattle.conspec_parse.specs.Written.Element.{Void, Int, Boolean, Byte, Short, Char, Class}
use Rattle.conspec_parse.specs.Meaning.{AreShort, below, element_desc, element_kind, type_desc, type_kind, param_of, element_names, lexemes}
use Rattle.conspec_parse.proofs.Found.{array_is}
use Rattle.conspec_parse.proofs.Got.{Got, ended, ended_as, gets, passes, holds, on_true, on_false, heads, head_name, next_at, is_name_here, drop_one, next_quoted, after_again, name_again, Path, Stops, Parts, each_again, Steps, Grows, grows}

abbrev pub Always : List Lexeme → Type 0
Always words = Unit {0}

pub judged_again : (name : List ℕ) (tokens : List Token) (words : List Lexeme) → lexemes tokens ≡ Name name ∷ words → IsTrue (is_short name) → Got (judged_name true tokens) name words
unfolding judged_name
judged_again name tokens words e short =
    gets _ (name_again name tokens words e) λ rest left.
    holds (not true || is_short name) (Limit (front_at tokens)) _ short (
    ended name rest left)

-- ---- types

abbrev plain_words : List Lexeme → Option TypeName
plain_words words =
    cond (heads (codes "void") words) (Some (type_named (codes "V") None)) (
    cond (heads (codes "int") words) (Some (type_named (codes "I") (Some kinds.Int))) (
    cond (heads (codes "boolean") words) (Some (type_named (codes "Z") (Some kinds.Bool))) (
    cond (heads (codes "byte") words) (Some (type_named (codes "B") (Some kinds.Byte))) (
    cond (heads (codes "short") words) (Some (type_named (codes "S") (Some kinds.Short))) (
    cond (heads (codes "char") words) (Some (type_named (codes "C") (Some kinds.Char))) None)))))

plain_at : (tokens : List Token) (words : List Lexeme) → lexemes tokens ≡ words → plain_type tokens ≡ plain_words words
plain_at tokens words e =
    let v = next_at (codes "void") tokens words e in
    let i = next_at (codes "int") tokens words e in
    let z = next_at (codes "boolean") tokens words e in
    let b = next_at (codes "byte") tokens words e in
    let s = next_at (codes "short") tokens words e in
    let c = next_at (codes "char") tokens words e in
    rw (v, i, z, b, s, c) refl

plain_again : (tokens : List Token) (type : TypeName) (l : Lexeme) (words : List Lexeme) → plain_words (l ∷ words) ≡ Some type → lexemes tokens ≡ l ∷ words
    → Got (element_at true tokens) type words
plain_again tokens type l words is e =
    let found : plain_type tokens ≡ Some type = plain_at tokens (l ∷ words) e ∙ is in
    record { rest = drop 1 tokens; is = rw found refl; left = drop_one tokens l words e }

abbrev AddsName : List ℕ → List ℕ → List ℕ → Type 0
AddsName class name next = (next ≡ class ++ 47 ∷ name) × IsTrue (is_short name)

name_parts : Parts (is_next (codes ".")) (next_part true) (λ (name : List ℕ). Quoted (codes ".") ∷ one_name name) Always AddsName
unfolding next_part
name_parts = record {
  begins = λ name words tokens e. next_quoted (codes ".") tokens (Name name ∷ words) e;
  leads = λ name words. tt;
  long = λ name. omega arith;
  step = λ class name next tokens words goes e last.
      passes _ (after_again (codes ".") tokens (Name name ∷ words) e) λ dot one.
      gets _ (judged_again name dot words one goes.1) λ rest two.
      ended_as (class ++ 47 ∷ name) next rest (sym goes.0) two;
}

names_path : (class : List ℕ) (names : List (List ℕ)) → AreShort names → Path AddsName class names (class ++ flat_map below names)
names_path class [] short = sym (append-nil class)
names_path class (name ∷ names) short =
    (class ++ 47 ∷ name, (refl, short.0), subst (λ (end : List ℕ). Path AddsName (class ++ 47 ∷ name) names end) (append_assoc class (47 ∷ name) (flat_map below names)) (names_path (class ++ 47 ∷ name) names short.1))

pub stops_at : (text : List ℕ) (words : List Lexeme) → heads text words ≡ false → Stops (is_next text) words
stops_at text words none = λ tokens e. next_at text tokens words e ∙ none

class_again : (first : List ℕ) (others : List (List ℕ)) (tokens : List Token) (words : List Lexeme) → lexemes tokens ≡ element_encoded (Class first others) ++ words
    → AreShort (first ∷ others) → heads (codes ".") words ≡ false → Got (class_at true tokens) (first ++ flat_map below others) words
unfolding class_at
class_again first others tokens words e short last =
    gets _ (judged_again first tokens (led (codes ".") one_name others ++ words) e short.0) λ rest left.
    each_again (is_next (codes ".")) (next_part true) (λ (name : List ℕ). Quoted (codes ".") ∷ one_name name) Always AddsName name_parts
    others first (first ++ flat_map below others) rest words (names_path first others short.1) left tt (stops_at (codes ".") words last)

class_type_again : (first : List ℕ) (others : List (List ℕ)) (tokens : List Token) (words : List Lexeme) → lexemes tokens ≡ element_encoded (Class first others) ++ words
    → AreShort (first ∷ others) → heads (codes ".") words ≡ false → Got (class_type_at true tokens) (type_named (element_desc (Class first others)) (Some kinds.Object)) words
unfolding class_type_at
class_type_again first others tokens words e short last =
    gets _ (class_again first others tokens words e short last) λ rest left.
    ended (type_named (class_encoded (first ++ flat_map below others)) (Some kinds.Object)) rest left

element_again : (element : Element) (tokens : List Token) (words : List Lexeme) → lexemes tokens ≡ element_encoded element ++ words → AreShort (element_names element)
    → heads (codes ".") words ≡ false → Got (element_at true tokens) (type_named (element_desc element) (element_kind element)) words
element_again Void tokens words e short last = plain_again tokens _ (Quoted (codes "void")) words refl e
element_again Int tokens words e short last = plain_again tokens _ (Quoted (codes "int")) words refl e
element_again Boolean tokens words e short last = plain_again tokens _ (Quoted (codes "boolean")) words refl e
element_again Byte tokens words e short last = plain_again tokens _ (Quoted (codes "byte")) words refl e
element_again Short tokens words e short last = plain_again tokens _ (Quoted (codes "short")) words refl e
element_again Char tokens words e short last = plain_again tokens _ (Quoted (codes "char")) words refl e
element_again (Class first others) tokens words e short last =
    let none : plain_type tokens ≡ None = plain_at tokens (element_encoded (Class first others) ++ words) e in
    let got = class_type_again first others tokens words e short last in
    record { rest = got.rest; is = rw none got.is; left = got.left }

abbrev bracket_pair : Unit {0} → List Lexeme
bracket_pair one = Quoted (codes "[") ∷ Quoted (codes "]") ∷ []

abbrev AddsBracket : List ℕ → Unit {0} → List ℕ → Type 0
AddsBracket brackets one next = next ≡ brackets ++ 91 ∷ []

dimension_parts : Parts (is_next (codes "[")) dimension_at bracket_pair Always AddsBracket
unfolding dimension_at
dimension_parts = record {
  begins = λ one words tokens e. next_quoted (codes "[") tokens (Quoted (codes "]") ∷ words) e;
  leads = λ one words. tt;
  long = λ one. omega arith;
  step = λ brackets one next tokens words goes e last.
      passes _ (after_again (codes "[") tokens (Quoted (codes "]") ∷ words) e) λ opened first.
      passes _ (after_again (codes "]") opened words first) λ rest second.
      ended_as (brackets ++ 91 ∷ []) next rest (sym goes) second;
}

pairs : (n : ℕ) → brackets_encoded n ≡ flat_map bracket_pair (replicate n tt)
pairs zero = refl
pairs (suc n) = ap (λ (w : List Lexeme). Quoted (codes "[") ∷ Quoted (codes "]") ∷ w) (pairs n)

brackets_path : (n : ℕ) (before : List ℕ) → Path AddsBracket before (replicate n tt) (before ++ replicate n 91)
brackets_path zero before = sym (append-nil before)
brackets_path (suc n) before =
    (before ++ 91 ∷ [], refl, subst (λ (end : List ℕ). Path AddsBracket (before ++ 91 ∷ []) (replicate n tt) end) (append_assoc before (91 ∷ []) (replicate n 91)) (brackets_path n (before ++ 91 ∷ [])))

-- words that do not go on with a type
pub record EndsType (words : List Lexeme) : Type 0 where
  pub no_dot : heads (codes ".") words ≡ false
  pub no_bracket : heads (codes "[") words ≡ false

no_dot_after : (n : ℕ) (words : List Lexeme) → EndsType words → heads (codes ".") (brackets_encoded n ++ words) ≡ false
no_dot_after zero words last = last.no_dot
no_dot_after (suc n) words last = refl

pub type_again : (type : WrittenType) (tokens : List Token) (words : List Lexeme) → lexemes tokens ≡ type_encoded type ++ words → AreShort (element_names type.element) → EndsType words
    → Got (type_at true tokens) (type_named (type_desc type) (type_kind type)) words
unfolding type_at
type_again type tokens words e short last =
    gets _ (element_again type.element tokens (brackets_encoded type.dimensions ++ words) (e ∙ append_assoc (element_encoded type.element) (brackets_encoded type.dimensions) words) short
    (no_dot_after type.dimensions words last)) λ rest left.
    gets _ (each_again (is_next (codes "[")) dimension_at bracket_pair Always AddsBracket dimension_parts (replicate type.dimensions tt) [] (replicate type.dimensions 91) rest words
    (brackets_path type.dimensions []) (left ∙ ap (λ (w : List Lexeme). w ++ words) (pairs type.dimensions)) tt (stops_at (codes "[") words last.no_bracket)) λ end all.
    ended_as (array_of (replicate type.dimensions 91) (type_named (element_desc type.element) (element_kind type.element))) (type_named (type_desc type) (type_kind type)) end
    (array_is type.dimensions type.element) all

-- ---- parameters

-- words that do not go on with a parameter
pub record EndsParam (words : List Lexeme) : Type 0 where
  pub type : EndsType words
  pub no_name : head_name words ≡ None

abbrev pub IsFree : List Var → List Param → Option (List ℕ) → Type 0
IsFree vars params None = Unit {0}
IsFree vars params (Some name) = (is_variable vars name ≡ false) × (is_parameter params name ≡ false) × IsTrue (is_short name)

free_is : (vars : List Var) (params : List Param) (name : List ℕ) → is_variable vars name ≡ false → is_parameter params name ≡ false → is_free vars params name ≡ true
free_is vars params name v p = rw (v, p) refl

given_again : (vars : List Var) (params : List Param) (name : List ℕ) (tokens : List Token) (words : List Lexeme) → lexemes tokens ≡ Name name ∷ words → IsFree vars params (Some name)
    → Got (given_name_at true vars params tokens) name words
unfolding given_name_at
given_again vars params name tokens words e free =
    gets _ (name_again name tokens words e) λ rest left.
    holds (not true || is_free vars params name) (Twice (front_at tokens)) _ (free_is vars params name free.0 free.1) (
    holds (not true || is_short name) (Limit (front_at tokens)) _ free.2 (
    ended name rest left))

parameter_name_again : (vars : List Var) (params : List Param) (name : Option (List ℕ)) (tokens : List Token) (words : List Lexeme) → lexemes tokens ≡ name_encoded name ++ words
    → IsFree vars params name → head_name words ≡ None → Got (parameter_name_at true vars params tokens) name words
parameter_name_again vars params None tokens words e free last =
    on_false (is_name tokens) _ _ (is_name_here tokens words e ∙ ap is_some last) (ended None tokens e)
parameter_name_again vars params (Some name) tokens words e free last =
    on_true (is_name tokens) _ _ (is_name_here tokens (Name name ∷ words) e) (
    gets _ (given_again vars params name tokens words e free) λ rest left.
    ended (Some name) rest left)

name_ends_type : (name : Option (List ℕ)) (words : List Lexeme) → EndsType words → EndsType (name_encoded name ++ words)
name_ends_type None words last = last
name_ends_type (Some name) words last = record { no_dot = refl; no_bracket = refl }

-- the next parameter
pub record IsNext (vars : List Var) (params : List Param) (written : WrittenParam) (param : Param) : Type 0 where
  pub is : param ≡ param_of written
  pub short : AreShort (element_names written.type.element)
  pub free : IsFree vars params written.name

parameter_again : (vars : List Var) (params : List Param) (written : WrittenParam) (param : Param) (tokens : List Token) (words : List Lexeme) → lexemes tokens ≡ param_encoded written ++ words
    → IsNext vars params written param → EndsParam words → Got (parameter_at true vars params tokens) (params ++ param ∷ []) words
unfolding parameter_at
parameter_again vars params written param tokens words e next last =
    gets _ (type_again written.type tokens (name_encoded written.name ++ words) (e ∙ append_assoc (type_encoded written.type) (name_encoded written.name) words) next.short
    (name_ends_type written.name words last.type)) λ rest one.
    gets _ (parameter_name_again vars params written.name rest words one next.free last.no_name) λ end two.
    ended_as (params ++ param_of written ∷ []) (params ++ param ∷ []) end (ap (λ (p : Param). params ++ p ∷ []) (sym next.is)) two

param_parts : (vars : List Var) → Parts (is_next (codes ",")) (next_parameter true vars) (λ (p : WrittenParam). Quoted (codes ",") ∷ param_encoded p) EndsParam (Grows (IsNext vars))
unfolding next_parameter
param_parts vars = record {
  begins = λ p words tokens e. next_quoted (codes ",") tokens (param_encoded p ++ words) e;
  leads = λ p words. record { type = record { no_dot = refl; no_bracket = refl }; no_name = refl };
  long = λ p. omega arith;
  step = λ params p next tokens words goes e last.
      passes _ (after_again (codes ",") tokens (param_encoded p ++ words) e) λ rest one.
      subst (λ (end : List Param). Got (parameter_at true vars params rest) end words) (sym goes.1) (parameter_again vars params p goes.0 rest words one goes.2 last);
}

some_again : (vars : List Var) (first : WrittenParam) (others : List WrittenParam) (tokens : List Token) (words : List Lexeme) → lexemes tokens ≡ params_encoded (first ∷ others) ++ words
    → Steps (IsNext vars) [] (first ∷ others) (map param_of (first ∷ others)) → EndsParam words → heads (codes ",") words ≡ false
    → Got (some_parameters true vars tokens) (map param_of (first ∷ others)) words
unfolding some_parameters
some_again vars first others tokens words e steps last none =
    let encode = λ (p : WrittenParam). Quoted (codes ",") ∷ param_encoded p in
    gets _ (parameter_again vars [] first (param_of first) tokens (flat_map encode others ++ words) (e ∙ append_assoc (param_encoded first) (flat_map encode others) words) steps.0
    (param_follows others words last)) λ rest left.
    each_again (is_next (codes ",")) (next_parameter true vars) encode EndsParam (Grows (IsNext vars)) (param_parts vars) others (param_of first ∷ []) (map param_of (first ∷ others)) rest words
    (grows (IsNext vars) (param_of first ∷ []) others (map param_of others) steps.1) left last (stops_at (codes ",") words none)
  where
    param_follows : (others : List WrittenParam) (words : List Lexeme) → EndsParam words → EndsParam (flat_map (λ (p : WrittenParam). Quoted (codes ",") ∷ param_encoded p) others ++ words)
    param_follows [] words last = last
    param_follows (p ∷ others) words last = record { type = record { no_dot = refl; no_bracket = refl }; no_name = refl }

no_closing : (first : WrittenParam) (others : List WrittenParam) (words : List Lexeme) → heads (codes ")") (params_encoded (first ∷ others) ++ words) ≡ false
no_closing first others words = by first.type.element where
  by : (e : Element) → heads (codes ")") ((((element_encoded e ++ brackets_encoded first.type.dimensions) ++ name_encoded first.name) ++ led (codes ",") param_encoded others) ++ words) ≡ false
  by Void = refl
  by Int = refl
  by Boolean = refl
  by Byte = refl
  by Short = refl
  by Char = refl
  by (Class name names) = refl

pub parameters_again : (vars : List Var) (written : List WrittenParam) (tokens : List Token) (words : List Lexeme) → lexemes tokens ≡ params_encoded written ++ Quoted (codes ")") ∷ words
    → Steps (IsNext vars) [] written (map param_of written) → Got (parameters_at true vars tokens) (map param_of written) (Quoted (codes ")") ∷ words)
parameters_again vars [] tokens words e steps =
    on_true (is_next (codes ")") tokens) _ _ (next_quoted (codes ")") tokens words e) (ended [] tokens e)
parameters_again vars (first ∷ others) tokens words e steps =
    on_false (is_next (codes ")") tokens) _ _ (next_at (codes ")") tokens _ e ∙ no_closing first others (Quoted (codes ")") ∷ words)) (
    some_again vars first others tokens (Quoted (codes ")") ∷ words) e steps (record { type = record { no_dot = refl; no_bracket = refl }; no_name = refl }) refl)
