-- What is read of two lists of tokens that agree at first: types, parameters and the names of methods, in which no `)` stands.
use Rattle.std.proofs.Common.{◌≡◌, ℕ, ◌+◌, Bool, true, false, List, [], ◌∷◌, ◌++◌, drop, Option, Some, None, Ok, refl, arith}
use Rattle.std.specs.Prelude.{not, codes, ◌||◌}
use Rattle.std.proofs.lemmas.Slice.Eq.{bytes_eq-Decides}
use Rattle.api_listing.specs.Descriptor.{class_encoded}
use Rattle.mon_base.specs.Reading.{◌>>=◌}
use Rattle.conspec_tokens.specs.declared.token.Lexeme.{Lexeme}
use Rattle.conspec_tokens.specs.declared.token.Lexeme.TheVariants.{Quoted, Name, Number, Wrong, End}
use Rattle.conspec_tokens.specs.declared.token.Token.{Token}
use Rattle.conspec_tree.specs.declared.types.Kind.TheVariants as kinds
use Rattle.conspec_tree.specs.declared.types.Var.{Var}
use Rattle.conspec_parse.specs.declared.type_name.TypeName.{TypeName}
use Rattle.conspec_parse.specs.declared.signature.Param.{Param}
use Rattle.conspec_parse.specs.declared.signature.Parts.{Parts}
use Rattle.conspec_parse.specs.declared.fault.PolicyFault.TheVariants.{Syntax, Twice, Limit}
use Rattle.conspec_parse.specs.Forms.{Parsed, is_short}
use Rattle.conspec_tokens.specs.Front.{is_next, is_name}
use Rattle.conspec_parse.specs.Types.{judged_name, type_named, plain_type, next_part, class_at, class_type_at, element_of, element_at, dimension_at, array_of, type_at}
use Rattle.conspec_tree.specs.Kinds.{kind_or_object}
use Rattle.conspec_parse.specs.Methods.{is_free, given_name_at, parameter_name_at, parameter_at, next_parameter, some_parameters, parameters_at, init, part_at, class_under, next_step}
use Rattle.conspec_parse.proofs.Alike.{Pair, Here, Alike, is_word, goes_on, none, next, next_goes_on, ended, told, onward, loosened, then, then_some, tested, peeked, either, after, named, apart_unclosed, one_unclosed, each_alike, syntax, twice, limit}

-- ---- types

pub judged_alike : {p : Pair} {c : ℕ} {t u : List Token} (judged : Bool) → Here p c t u → Alike p true c (c + 1) (judged_name judged t) (judged_name judged u)
unfolding judged_name
judged_alike {p = p} {c = c} judged here =
    named _ _ here λ name more.
    tested (not judged || is_short name) _ _ _ _ (told Limit limit here (omega arith) (none true p (c + 1) (c + 1) (omega arith))) λ short.
    ended name more

next_part_alike : {p : Pair} {c : ℕ} {t u : List Token} (judged : Bool) (class : List ℕ) → Here p c t u → Alike p true c (c + 1) (next_part judged class t) (next_part judged class u)
unfolding next_part
next_part_alike judged class here =
    after (codes ".") _ _ refl here λ dot.
    then _ _ (judged_alike judged dot) λ name d x y enough more.
    ended (class ++ 47 ∷ name) more

class_alike : {p : Pair} {c : ℕ} {t u : List Token} (judged : Bool) → Here p c t u → Alike p true c (c + 1) (class_at judged t) (class_at judged u)
unfolding class_at
class_alike judged here =
    then_some _ _ (judged_alike judged here) λ first d x y enough more.
    each_alike (is_next (codes ".")) (next_part judged) (λ x t u. refl) (λ class c t u here goes. next_part_alike judged class here) first d x y more

class_type_alike : {p : Pair} {c : ℕ} {t u : List Token} (judged : Bool) → Here p c t u → Alike p true c (c + 1) (class_type_at judged t) (class_type_at judged u)
unfolding class_type_at
class_type_alike judged here =
    then_some _ _ (class_alike judged here) λ class d x y enough more.
    ended (type_named (class_encoded class) (Some kinds.Object)) more

plain_word : (x : Token) (t : List Token) (plain : TypeName) → plain_type (x ∷ t) ≡ Some plain → is_word x.lexeme ≡ true
plain_word x t plain e = by x.lexeme e where
  by : (l : Lexeme) → plain_type (record { at = x.at; lexeme = l } ∷ t) ≡ Some plain → is_word l ≡ true
  by (Quoted word) e = refl
  by (Name word) e = refl
  by (Number n) e = refl
  by Wrong e = absurd cc
  by End e = absurd cc

pub plain_goes_on : (t : List Token) (plain : TypeName) → plain_type t ≡ Some plain → goes_on t ≡ true
plain_goes_on [] plain e = absurd cc
plain_goes_on (x ∷ t) plain e = plain_word x t plain e

plain_no_close : (t : List Token) (plain : TypeName) → plain_type t ≡ Some plain → is_next (codes ")") t ≡ false
plain_no_close t plain e = by (is_next (codes ")") t) refl where
  by : (b : Bool) → is_next (codes ")") t ≡ b → is_next (codes ")") t ≡ false
  by false is = is
  by true is = absurd (closes t is e) where
    closes : (t : List Token) → is_next (codes ")") t ≡ true → plain_type t ≡ Some plain → ⊥
    closes [] is e = cc
    closes (x ∷ t) is e = quoted x.lexeme is e where
      quoted : (l : Lexeme) → is_next (codes ")") (record { at = x.at; lexeme = l } ∷ t) ≡ true → plain_type (record { at = x.at; lexeme = l } ∷ t) ≡ Some plain → ⊥
      quoted (Quoted word) is e = let same : word ≡ codes ")" = (bytes_eq-Decides word (codes ")")).0 is in let none : None ≡ Some plain = rw same at e in cc
      quoted (Name word) is e = cc
      quoted (Number n) is e = cc
      quoted Wrong is e = cc
      quoted End is e = cc

element_alike : {p : Pair} {c : ℕ} {t u : List Token} (judged : Bool) → Here p c t u → Alike p true c (c + 1) (element_at judged t) (element_at judged u)
element_alike {p = p} {c = c} {t = t} {u = u} judged here = peeked plain_type (λ v. element_of v judged t) (λ v. element_of v judged u) (λ x t u. refl) here by where
  by : (v : Option TypeName) → plain_type t ≡ v → Alike p true c (c + 1) (element_of v judged t) (element_of v judged u)
  by (Some plain) e = onward (omega arith) (one_unclosed here (plain_no_close t plain e)) (ended plain (next here (plain_goes_on t plain e)))
  by None e = class_type_alike judged here

dimension_alike : {p : Pair} {c : ℕ} {t u : List Token} (brackets : List ℕ) → Here p c t u → Alike p true c (c + 1) (dimension_at brackets t) (dimension_at brackets u)
unfolding dimension_at
dimension_alike brackets here =
    after (codes "[") _ _ refl here λ opened.
    loosened (after (codes "]") _ _ refl opened λ closed.
    ended (brackets ++ 91 ∷ []) closed)

pub type_alike : {p : Pair} {c : ℕ} {t u : List Token} (judged : Bool) → Here p c t u → Alike p true c (c + 1) (type_at judged t) (type_at judged u)
unfolding type_at
type_alike judged here =
    then_some _ _ (element_alike judged here) λ element d x y enough more.
    then _ _ (each_alike (is_next (codes "[")) dimension_at (λ x t u. refl) (λ brackets c t u here goes. dimension_alike brackets here) [] d x y more) λ brackets e v w last after_it.
    ended (array_of brackets element) after_it

-- ---- parameters

given_alike : {p : Pair} {c : ℕ} {t u : List Token} (judged : Bool) (vars : List Var) (params : List Param) → Here p c t u
    → Alike p true c (c + 1) (given_name_at judged vars params t) (given_name_at judged vars params u)
unfolding given_name_at
given_alike {p = p} {c = c} judged vars params here =
    named _ _ here λ name more.
    tested (not judged || is_free vars params name) _ _ _ _ (told Twice twice here (omega arith) (none true p (c + 1) (c + 1) (omega arith))) λ once.
    tested (not judged || is_short name) _ _ _ _ (told Limit limit here (omega arith) (none true p (c + 1) (c + 1) (omega arith))) λ short.
    ended name more

parameter_name_alike : {p : Pair} {c : ℕ} {t u : List Token} (judged : Bool) (vars : List Var) (params : List Param) → Here p c t u
    → Alike p true c c (parameter_name_at judged vars params t) (parameter_name_at judged vars params u)
parameter_name_alike judged vars params here =
    either is_name _ _ _ _ (λ x t u. refl) here
    (λ is. then _ _ (given_alike judged vars params here) λ name d x y enough more. ended (Some name) more)
    (λ other. ended None here)

parameter_alike : {p : Pair} {c : ℕ} {t u : List Token} (judged : Bool) (vars : List Var) (params : List Param) → Here p c t u
    → Alike p true c (c + 1) (parameter_at judged vars params t) (parameter_at judged vars params u)
unfolding parameter_at
parameter_alike judged vars params here =
    then_some _ _ (type_alike judged here) λ type d x y enough more.
    then _ _ (parameter_name_alike judged vars params more) λ name e v w last after_it.
    ended (params ++ (record { name = name; desc = type.desc; kind = kind_or_object type.kind }) ∷ []) after_it

next_parameter_alike : {p : Pair} {c : ℕ} {t u : List Token} (judged : Bool) (vars : List Var) (params : List Param) → Here p c t u
    → Alike p true c (c + 1) (next_parameter judged vars params t) (next_parameter judged vars params u)
unfolding next_parameter
next_parameter_alike judged vars params here =
    after (codes ",") _ _ refl here λ comma.
    loosened (parameter_alike judged vars params comma)

some_parameters_alike : {p : Pair} {c : ℕ} {t u : List Token} (judged : Bool) (vars : List Var) → Here p c t u
    → Alike p true c (c + 1) (some_parameters judged vars t) (some_parameters judged vars u)
unfolding some_parameters
some_parameters_alike judged vars here =
    then_some _ _ (parameter_alike judged vars [] here) λ first d x y enough more.
    each_alike (is_next (codes ",")) (next_parameter judged vars) (λ x t u. refl) (λ params c t u here goes. next_parameter_alike judged vars params here) first d x y more

pub parameters_alike : {p : Pair} {c : ℕ} {t u : List Token} (judged : Bool) (vars : List Var) → Here p c t u
    → Alike p true c c (parameters_at judged vars t) (parameters_at judged vars u)
parameters_alike judged vars here =
    either (is_next (codes ")")) _ _ _ _ (λ x t u. refl) here (λ closed. ended [] here) (λ more. loosened (some_parameters_alike judged vars here))

-- ---- the class and the name

part_alike : {p : Pair} {c : ℕ} {t u : List Token} (judged : Bool) → Here p c t u → Alike p true c (c + 1) (part_at judged t) (part_at judged u)
part_alike {t = t} judged here =
    either (is_next init) _ _ _ _ (λ x t u. refl) here
    (λ is. onward (omega arith) (apart_unclosed true init refl here is) (ended init (next here (next_goes_on init t is))))
    (λ other. judged_alike judged here)

abbrev part_below : Bool → Parts → List Token → Bool → Parsed Parts
part_below judged parts dot last =
    part_at judged dot >>= λ part. Ok (record { class = Some (class_under parts.class parts.name); name = part.0; is_last = last }, part.1)

part_below_alike : {p : Pair} {c : ℕ} {t u : List Token} (judged : Bool) (parts : Parts) (last : Bool) → Here p c t u
    → Alike p true c c (part_below judged parts t last) (part_below judged parts u last)
part_below_alike judged parts last here =
    then _ _ (part_alike judged here) λ part d x y enough more.
    ended (record { class = Some (class_under parts.class parts.name); name = part; is_last = last }) more

pub step_alike : {p : Pair} {c : ℕ} {t u : List Token} (judged : Bool) (parts : Parts) → Here p c t u → Alike p true c (c + 1) (next_step judged parts t) (next_step judged parts u)
unfolding next_step
step_alike {p = p} {c = c} {t = t} {u = u} judged parts here =
    tested (not parts.is_last) _ _ _ _ (told Syntax syntax here (omega arith) (none true p c (c + 0) (omega arith))) λ below.
    after (codes ".") _ _ refl here λ dot.
    peeked (is_next init) (part_below judged parts (drop 1 t)) (part_below judged parts (drop 1 u)) (λ x t u. refl) dot λ last is. part_below_alike judged parts last dot
