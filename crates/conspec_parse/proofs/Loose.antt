-- Where names are judged, what is read is what is read where they are not, and so is each fault but those of names.
use Rattle.std.proofs.Common.{◌≡◌, ◌⊎◌, inl, inr, ℕ, zero, suc, Bool, true, false, cond, List, [], length, drop, Option, Some, None, Ok, Err, refl, ap}
use Rattle.std.specs.Prelude.{not, codes, ◌||◌, ok_or}
use Rattle.mon_base.specs.Reading.{◌>>=◌, need}
use Rattle.conspec_tokens.specs.declared.token.Token.{Token}
use Rattle.conspec_tree.specs.declared.types.Var.{Var}
use Rattle.conspec_parse.specs.declared.type_name.TypeName.{TypeName}
use Rattle.conspec_parse.specs.declared.signature.Param.{Param}
use Rattle.conspec_parse.specs.declared.signature.Parts.{Parts}
use Rattle.conspec_parse.specs.declared.fault.PolicyFault.{PolicyFault}
use Rattle.conspec_parse.specs.declared.fault.PolicyFault.TheVariants.{Syntax, Twice, Limit}
use Rattle.conspec_parse.specs.Fault.{Judged}
use Rattle.conspec_parse.specs.Forms.{Parsed, following, name_at, is_short, repeated, each}
use Rattle.conspec_tokens.specs.Front.{front_at, is_next, is_name}
use Rattle.conspec_parse.specs.Types.{judged_name, plain_type, next_part, class_at, class_type_at, element_of, element_at, dimension_at, type_at}
use Rattle.conspec_parse.specs.Methods.{is_free, given_name_at, parameter_name_at, parameter_at, next_parameter, some_parameters, parameters_at, init, part_at, next_step, path_at, signature_at}

-- ---- the forms

-- what may be wrong with a name
abbrev pub is_of_name : PolicyFault → Bool
is_of_name (Twice at) = true
is_of_name (Limit at) = true
is_of_name other = false

pub record Loosens {X : Type 0} (strict loose : Judged X) : Type 0 where
  pub read : (x : X) → strict ≡ Ok x → loose ≡ Ok x
  pub fails : (fault : PolicyFault) → strict ≡ Err fault → (is_of_name fault ≡ true) ⊎ (loose ≡ Err fault)

same : {X : Type 0} (read : Judged X) → Loosens read read
same read = record { read = λ x e. e; fails = λ fault e. inr e }

by_name : {X : Type 0} (fault : PolicyFault) (loose : Judged X) → is_of_name fault ≡ true → Loosens (Err fault) loose
by_name fault loose naming = record {
  read = λ x e. absurd cc;
  fails = λ other e. let same : fault ≡ other = cc in inl (rw same at naming);
}

then : {X Y : Type 0} {strict loose : Judged X} (f g : X → Judged Y) → Loosens strict loose → ((x : X) → Loosens (f x) (g x)) → Loosens (strict >>= f) (loose >>= g)
then {X = X} {Y = Y} {strict = strict} {loose = loose} f g part rest = by strict loose part where
  by : (a b : Judged X) → Loosens a b → Loosens (a >>= f) (b >>= g)
  by (Ok x) b part = rw (part.read x refl) (rest x)
  by (Err e) b part = record {
    read = λ y is. absurd cc;
    fails = λ fault is. let same : e ≡ fault = cc in told fault b (part.fails fault (ap Err same));
  } where
    told : (fault : PolicyFault) (b : Judged X) → (is_of_name fault ≡ true) ⊎ (b ≡ Err fault) → (is_of_name fault ≡ true) ⊎ (b >>= g ≡ Err fault)
    told fault b (inl naming) = inl naming
    told fault b (inr is) = inr (rw is refl)

-- a test that is made where names are judged
judged : {Y : Type 0} (test : Bool) (fault : PolicyFault) (f g : Unit {0} → Judged Y) → is_of_name fault ≡ true → Loosens (f tt) (g tt)
    → Loosens (need test fault >>= f) (g tt)
judged true fault f g naming rest = rest
judged false fault f g naming rest = by_name fault (g tt) naming

either : {Y : Type 0} (test : Bool) (a x b y : Judged Y) → Loosens a b → Loosens x y → Loosens (cond test a x) (cond test b y)
either true a x b y on_true on_false = on_true
either false a x b y on_true on_false = on_false

repeated_loose : {S : Type 0} (more : List Token → Bool) (strict loose : S → List Token → Parsed S) → ((s : S) (tokens : List Token) → Loosens (strict s tokens) (loose s tokens))
    → (n : ℕ) (s : S) (tokens : List Token) → Loosens (repeated more strict n s tokens) (repeated more loose n s tokens)
unfolding repeated
repeated_loose more strict loose step zero s tokens = same _
repeated_loose more strict loose step (suc n) s tokens =
    either (more tokens) _ _ _ _ (then _ _ (step s tokens) λ r. repeated_loose more strict loose step n r.0 r.1) (same _)

-- ---- types

name_loose : (tokens : List Token) → Loosens (judged_name true tokens) (judged_name false tokens)
unfolding judged_name
name_loose tokens =
    then _ _ (same (name_at tokens)) λ name.
    judged (not true || is_short name.0) (Limit (front_at tokens)) _ (λ short. Ok name) refl (same (Ok name))

part_loose : (class : List ℕ) (tokens : List Token) → Loosens (next_part true class tokens) (next_part false class tokens)
unfolding next_part
part_loose class tokens =
    then _ _ (same (following (codes ".") tokens)) λ dot.
    then _ _ (name_loose dot) λ name. same _

class_loose : (tokens : List Token) → Loosens (class_at true tokens) (class_at false tokens)
unfolding class_at
class_loose tokens =
    then _ _ (name_loose tokens) λ first.
    repeated_loose (is_next (codes ".")) (next_part true) (next_part false) part_loose (length first.1) first.0 first.1

class_type_loose : (tokens : List Token) → Loosens (class_type_at true tokens) (class_type_at false tokens)
unfolding class_type_at
class_type_loose tokens = then _ _ (class_loose tokens) λ class. same _

element_loose : (tokens : List Token) → Loosens (element_at true tokens) (element_at false tokens)
element_loose tokens = by (plain_type tokens) where
  by : (found : Option TypeName) → Loosens (element_of found true tokens) (element_of found false tokens)
  by (Some plain) = same (Ok (plain, drop 1 tokens))
  by None = class_type_loose tokens

type_loose : (tokens : List Token) → Loosens (type_at true tokens) (type_at false tokens)
unfolding type_at
type_loose tokens =
    then _ _ (element_loose tokens) λ element.
    then _ _ (same (each (is_next (codes "[")) dimension_at [] element.1)) λ brackets. same _

-- ---- parameters

given_loose : (vars : List Var) (params : List Param) (tokens : List Token) → Loosens (given_name_at true vars params tokens) (given_name_at false vars params tokens)
unfolding given_name_at
given_loose vars params tokens =
    then _ _ (same (name_at tokens)) λ name.
    judged (not true || is_free vars params name.0) (Twice (front_at tokens)) _ (λ once. Ok name) refl (
    judged (not true || is_short name.0) (Limit (front_at tokens)) _ (λ short. Ok name) refl (same (Ok name)))

parameter_name_loose : (vars : List Var) (params : List Param) (tokens : List Token)
    → Loosens (parameter_name_at true vars params tokens) (parameter_name_at false vars params tokens)
parameter_name_loose vars params tokens = either (is_name tokens) _ _ _ _ (then _ _ (given_loose vars params tokens) λ name. same _) (same _)

parameter_loose : (vars : List Var) (params : List Param) (tokens : List Token) → Loosens (parameter_at true vars params tokens) (parameter_at false vars params tokens)
unfolding parameter_at
parameter_loose vars params tokens =
    then _ _ (type_loose tokens) λ type.
    then _ _ (parameter_name_loose vars params type.1) λ name. same _

next_parameter_loose : (vars : List Var) (params : List Param) (tokens : List Token) → Loosens (next_parameter true vars params tokens) (next_parameter false vars params tokens)
unfolding next_parameter
next_parameter_loose vars params tokens = then _ _ (same (following (codes ",") tokens)) λ comma. parameter_loose vars params comma

some_parameters_loose : (vars : List Var) (tokens : List Token) → Loosens (some_parameters true vars tokens) (some_parameters false vars tokens)
unfolding some_parameters
some_parameters_loose vars tokens =
    then _ _ (parameter_loose vars [] tokens) λ first.
    repeated_loose (is_next (codes ",")) (next_parameter true vars) (next_parameter false vars) (next_parameter_loose vars) (length first.1) first.0 first.1

parameters_loose : (vars : List Var) (tokens : List Token) → Loosens (parameters_at true vars tokens) (parameters_at false vars tokens)
parameters_loose vars tokens = either (is_next (codes ")") tokens) _ _ _ _ (same _) (some_parameters_loose vars tokens)

-- ---- the class and the name

path_part_loose : (tokens : List Token) → Loosens (part_at true tokens) (part_at false tokens)
path_part_loose tokens = either (is_next init tokens) _ _ _ _ (same _) (name_loose tokens)

step_loose : (parts : Parts) (tokens : List Token) → Loosens (next_step true parts tokens) (next_step false parts tokens)
unfolding next_step
step_loose parts tokens =
    then _ _ (same (need (not parts.is_last) (Syntax (front_at tokens)))) λ below.
    then _ _ (same (following (codes ".") tokens)) λ dot.
    then _ _ (path_part_loose dot) λ part. same _

path_loose : (tokens : List Token) → Loosens (path_at true tokens) (path_at false tokens)
unfolding path_at
path_loose tokens =
    then _ _ (name_loose tokens) λ first.
    then _ _ (repeated_loose (is_next (codes ".")) (next_step true) (next_step false) step_loose (length first.1) (record { class = None; name = first.0; is_last = false }) first.1) λ parts.
    then _ _ (same (ok_or parts.0.class (Syntax (front_at parts.1)))) λ class. same _

pub signature_loose : (vars : List Var) (tokens : List Token) → Loosens (signature_at true vars tokens) (signature_at false vars tokens)
unfolding signature_at
signature_loose vars tokens =
    then _ _ (path_loose tokens) λ path.
    then _ _ (same (following (codes "(") path.1)) λ opened.
    then _ _ (parameters_loose vars opened) λ params.
    then _ _ (same (following (codes ")") params.1)) λ closed. same _
