-- What is read is encoded so: names, types, parameters and methods.
use Rattle.std.proofs.Common.{◌≡◌, ◌≢◌, ◌⊎◌, inl, inr, ⊎_elim, ℕ, zero, suc, ◌<◌, Bool, true, false, cond, List, [], ◌∷◌, ◌++◌, length, map, drop, get_or, replicate, Option, Some, None, refl, sym, ap, subst, ◌∙◌, arith, append_assoc}
use Rattle.std.specs.Prelude.{not, codes, AllPairs, IsTrue, ◌||◌}
use Rattle.std.specs.List.{AllByRecursion, flat_map}
use Rattle.std.proofs.lemmas.Bool.Decides.{not_from_Decides}
use Rattle.std.proofs.lemmas.Grind.{flat_map-append}
use Rattle.std.proofs.lemmas.List.{append-nil, map-append}
use Rattle.std.proofs.lemmas.List.Quantifiers.{all_pairs_push}
use Rattle.std.proofs.lemmas.Slice.Eq.{bytes_eq-Decides}
use Rattle.api_listing.specs.Descriptor.{class_encoded}
use Rattle.conspec_tokens.specs.declared.token.Lexeme.{Lexeme}
use Rattle.conspec_tokens.specs.declared.token.Lexeme.TheVariants.{Quoted, Name, Number, Wrong, End}
use Rattle.conspec_tokens.specs.declared.token.Token.{Token}
use Rattle.conspec_tree.specs.declared.types.Kind.TheVariants as kinds
use Rattle.conspec_tree.specs.declared.types.Var.{Var}
use Rattle.conspec_parse.specs.declared.type_name.TypeName.{TypeName}
use Rattle.conspec_parse.specs.declared.signature.Param.{Param}
use Rattle.conspec_parse.specs.declared.fault.PolicyFault.TheVariants.{Twice, Limit}
use Rattle.conspec_tokens.specs.Front.{front_at, quotes, is_next, is_name, names, next_name, counts, next_number}
use Rattle.conspec_parse.specs.Forms.{following, name_at, number_at, taken, is_short}
use Rattle.conspec_parse.specs.Types.{judged_name, type_named, plain_type, next_part, class_at, class_type_at, element_of, element_at, dimension_at, array_of, type_at}
use Rattle.conspec_tree.specs.Variables.{is_variable}
use Rattle.conspec_tree.specs.Kinds.{kind_or_object}
use Rattle.conspec_parse.specs.Methods.{is_named, is_parameter, is_free, given_name_at, parameter_name_at, parameter_at, next_parameter, some_parameters, parameters_at}
use Rattle.conspec_parse.specs.Written.{Element, WrittenType, WrittenParam, led, one_name, element_encoded, brackets_encoded, type_encoded, name_encoded, param_encoded, params_encoded}
use Rattle.conspec_parse.specs.Written.Element.{Void, Int, Boolean, Byte, Short, Char, Class}
use Rattle.conspec_parse.specs.Meaning.{EachIs, AreShort, below, element_desc, element_kind, type_desc, kind_in, type_kind, param_of, element_names, optional, names_of_param, param_names, AreParams, lexemes}
use Rattle.conspec_parse.proofs.Made.{Makes, done, then, tested, either, failed, given, taken_makes, said, each_makes}
use Rattle.conspec_parse.proofs.Sound.{all_more, no_pairs}
use Rattle.std.proofs.lemmas.Bool.{not-true, or_parts}

-- ---- encoded parts

-- The tokens begin with these words, and go on with the rest.
pub record Took (tokens : List Token) (words : List Lexeme) (rest : List Token) : Type 0 where
  pub is : lexemes tokens ≡ words ++ lexemes rest

pub joins : {a b c : List Token} {x y : List Lexeme} → Took a x b → Took b y c → Took a (x ++ y) c
joins {c = c} {x = x} {y = y} p q = record { is = p.is ∙ ap (λ (w : List Lexeme). x ++ w) q.is ∙ sym (append_assoc x y (lexemes c)) }

pub nothing : (tokens : List Token) → Took tokens [] tokens
nothing tokens = record { is = refl }

pub encoded_as : {a b : List Token} (x y : List Lexeme) → x ≡ y → Took a x b → Took a y b
encoded_as {a = a} {b = b} x y e p = subst (λ (w : List Lexeme). Took a w b) e p

-- What is read is what a written part says, and the part is encoded so.
pub record Found {W X : Type 0} (encode : W → List Lexeme) (Says : W → X → Type 0) (tokens : List Token) (read : X × List Token) : Type 0 where
  pub written : W
  pub took : Took tokens (encode written) read.1
  pub says : Says written read.0

pub led_more : {X : Type 0} (sign : List ℕ) (encode : X → List Lexeme) (parts : List X) (part : X)
    → led sign encode parts ++ Quoted sign ∷ encode part ≡ led sign encode (parts ++ part ∷ [])
led_more sign encode parts part =
    ap (λ (w : List Lexeme). led sign encode parts ++ Quoted sign ∷ w) (sym (append-nil (encode part)))
    ∙ sym (flat_map-append (λ p. Quoted sign ∷ encode p) parts (part ∷ []))

pub all_more_words : {X : Type 0} (encode : X → List Lexeme) (parts : List X) (part : X)
    → flat_map encode parts ++ encode part ≡ flat_map encode (parts ++ part ∷ [])
all_more_words encode parts part =
    ap (λ (w : List Lexeme). flat_map encode parts ++ w) (sym (append-nil (encode part)))
    ∙ sym (flat_map-append encode parts (part ∷ []))

pub each_more : {X Y : Type 0} (Is : X → Y → Type 0) (xs : List X) (ys : List Y) (x : X) (y : Y) → EachIs Is xs ys → Is x y → EachIs Is (xs ++ x ∷ []) (ys ++ y ∷ [])
each_more Is [] [] x y are is = (is, tt)
each_more Is [] (z ∷ ys) x y are is = absurd are
each_more Is (z ∷ xs) [] x y are is = absurd are
each_more Is (z ∷ xs) (v ∷ ys) x y are is = (are.0, each_more Is xs ys x y are.1 is)

-- ---- single tokens

quotes_is : (text : List ℕ) (l : Lexeme) → quotes text l ≡ true → l ≡ Quoted text
quotes_is text (Quoted word) e = ap Quoted ((bytes_eq-Decides word text).0 e)
quotes_is text (Name word) e = absurd cc
quotes_is text (Number n) e = absurd cc
quotes_is text Wrong e = absurd cc
quotes_is text End e = absurd cc

pub next_is : (text : List ℕ) (tokens : List Token) → is_next text tokens ≡ true → Took tokens (Quoted text ∷ []) (drop 1 tokens)
next_is text [] e = absurd cc
next_is text (t ∷ tokens) e = record { is = ap (λ (l : Lexeme). l ∷ lexemes tokens) (quotes_is text t.lexeme e) }

pub after_found : (text : List ℕ) (tokens : List Token) → Makes (following text tokens) (λ rest. Took tokens (Quoted text ∷ []) rest)
after_found text tokens = either (is_next text tokens) _ _ (λ holds. done (drop 1 tokens) (next_is text tokens holds)) (λ fails. failed _)

names_is : (l : Lexeme) (name : List ℕ) → names l ≡ Some name → l ≡ Name name
names_is (Quoted word) name e = absurd cc
names_is (Name word) name e = cc
names_is (Number n) name e = absurd cc
names_is Wrong name e = absurd cc
names_is End name e = absurd cc

pub next_name_is : (tokens : List Token) (name : List ℕ) → next_name tokens ≡ Some name → Took tokens (one_name name) (drop 1 tokens)
next_name_is [] name e = absurd cc
next_name_is (t ∷ tokens) name e = record { is = ap (λ (l : Lexeme). l ∷ lexemes tokens) (names_is t.lexeme name e) }

counts_is : (l : Lexeme) (n : ℕ) → counts l ≡ Some n → l ≡ Number n
counts_is (Quoted word) n e = absurd cc
counts_is (Name word) n e = absurd cc
counts_is (Number m) n e = cc
counts_is Wrong n e = absurd cc
counts_is End n e = absurd cc

pub next_number_is : (tokens : List Token) (n : ℕ) → next_number tokens ≡ Some n → Took tokens (Number n ∷ []) (drop 1 tokens)
next_number_is [] n e = absurd cc
next_number_is (t ∷ tokens) n e = record { is = ap (λ (l : Lexeme). l ∷ lexemes tokens) (counts_is t.lexeme n e) }

pub taken_found : {X : Type 0} (found : Option X) (encode : X → Lexeme) (tokens : List Token)
    → ((x : X) → found ≡ Some x → Took tokens (encode x ∷ []) (drop 1 tokens)) → Makes (taken found tokens) (λ r. Took tokens (encode r.0 ∷ []) r.1)
taken_found found encode tokens told =
    said (taken_makes found tokens) λ r is. subst (λ (rest : List Token). Took tokens (encode r.0 ∷ []) rest) (sym is.1) (told r.0 is.0)

pub name_found : (tokens : List Token) → Makes (name_at tokens) (λ r. Took tokens (one_name r.0) r.1)
name_found tokens = taken_found (next_name tokens) (λ name. Name name) tokens (next_name_is tokens)

pub number_found : (tokens : List Token) → Makes (number_at tokens) (λ r. Took tokens (Number r.0 ∷ []) r.1)
number_found tokens = taken_found (next_number tokens) (λ n. Number n) tokens (next_number_is tokens)

pub judged_found : (tokens : List Token) → Makes (judged_name true tokens) (λ r. Took tokens (one_name r.0) r.1 × IsTrue (is_short r.0))
unfolding judged_name
judged_found tokens =
    then _ (name_found tokens) λ name took.
    tested (not true || is_short name.0) (Limit (front_at tokens)) _ λ short.
    done name (took, short)

-- ---- types

pub record IsPlain (tokens : List Token) (type : TypeName) : Type 0 where
  pub element : Element
  pub took : Took tokens (element_encoded element) (drop 1 tokens)
  pub is : type ≡ type_named (element_desc element) (element_kind element)
  pub unnamed : element_names element ≡ []

plain_is : (tokens : List Token) (type : TypeName) (word : List ℕ) (e : Element) → element_encoded e ≡ Quoted word ∷ [] → element_names e ≡ []
    → (is_next word tokens ≡ true) × (type_named (element_desc e) (element_kind e) ≡ type) → IsPlain tokens type
plain_is tokens type word e encoded unnamed h = record {
  element = e;
  took = encoded_as (Quoted word ∷ []) (element_encoded e) (sym encoded) (next_is word tokens h.0);
  is = sym h.1;
  unnamed = unnamed;
}

pub which : {T : Type 0} (b : Bool) (x : T) (other : Option T) (t : T) → cond b (Some x) other ≡ Some t → ((b ≡ true) × (x ≡ t)) ⊎ (other ≡ Some t)
which true x other t e = inl (refl, cc)
which false x other t e = inr e

pub plain_found : (tokens : List Token) (type : TypeName) → plain_type tokens ≡ Some type → IsPlain tokens type
plain_found tokens type e =
    ⊎_elim (plain_is tokens type (codes "void") Void refl refl) (λ e1.
    ⊎_elim (plain_is tokens type (codes "int") Int refl refl) (λ e2.
    ⊎_elim (plain_is tokens type (codes "boolean") Boolean refl refl) (λ e3.
    ⊎_elim (plain_is tokens type (codes "byte") Byte refl refl) (λ e4.
    ⊎_elim (plain_is tokens type (codes "short") Short refl refl) (λ e5.
    ⊎_elim (plain_is tokens type (codes "char") Char refl refl) (λ e6. absurd cc)
    (which (is_next (codes "char") tokens) _ _ type e5))
    (which (is_next (codes "short") tokens) _ _ type e4))
    (which (is_next (codes "byte") tokens) _ _ type e3))
    (which (is_next (codes "boolean") tokens) _ _ type e2))
    (which (is_next (codes "int") tokens) _ _ type e1))
    (which (is_next (codes "void") tokens) _ _ type e)

-- the further names of a class
abbrev IsClassWith : List ℕ → List (List ℕ) → List ℕ → Type 0
IsClassWith first others class = (class ≡ first ++ flat_map below others) × AreShort others

below_more : (first name : List ℕ) (others : List (List ℕ)) → (first ++ flat_map below others) ++ 47 ∷ name ≡ first ++ flat_map below (others ++ name ∷ [])
below_more first name others =
    append_assoc first (flat_map below others) (47 ∷ name)
    ∙ ap (λ (w : List ℕ). first ++ w) (ap (λ (w : List ℕ). flat_map below others ++ 47 ∷ w) (sym (append-nil name)) ∙ sym (flat_map-append below others (name ∷ [])))

part_found : (start : List Token) (first class : List ℕ) (tokens : List Token) → Found (led (codes ".") one_name) (IsClassWith first) start (class, tokens)
    → Makes (next_part true class tokens) (Found (led (codes ".") one_name) (IsClassWith first) start)
unfolding next_part
part_found start first class tokens before =
    then _ (after_found (codes ".") tokens) λ dot one.
    then _ (judged_found dot) λ name two.
    done (class ++ 47 ∷ name.0, name.1) (record {
      written = before.written ++ name.0 ∷ [];
      took = encoded_as _ _ (led_more (codes ".") one_name before.written name.0) (joins before.took (joins one two.0));
      says = (ap (λ (c : List ℕ). c ++ 47 ∷ name.0) before.says.0 ∙ below_more first name.0 before.written, all_more (λ (n : List ℕ). IsTrue (is_short n)) before.written name.0 before.says.1 two.1);
    })

abbrev NamesClass : Element → List ℕ → Type 0
NamesClass e class = (class_encoded class ≡ element_desc e) × (element_kind e ≡ Some kinds.Object) × AreShort (element_names e)

class_found : (tokens : List Token) → Makes (class_at true tokens) (Found element_encoded NamesClass tokens)
unfolding class_at
class_found tokens =
    then _ (judged_found tokens) λ first one.
    said (each_makes (is_next (codes ".")) (next_part true) (λ class left. Found (led (codes ".") one_name) (IsClassWith first.0) first.1 (class, left))
    (λ class left goes before. part_found first.1 first.0 class left before)
    first.0 first.1 (record { written = []; took = nothing first.1; says = (sym (append-nil first.0), tt) })) λ r others.
    record { written = Class first.0 others.written; took = joins one.0 others.took; says = (ap class_encoded others.says.0, refl, (one.1, others.says.1)) }

abbrev IsElement : Element → TypeName → Type 0
IsElement e type = (type ≡ type_named (element_desc e) (element_kind e)) × AreShort (element_names e)

class_type_found : (tokens : List Token) → Makes (class_type_at true tokens) (Found element_encoded IsElement tokens)
unfolding class_type_at
class_type_found tokens =
    then _ (class_found tokens) λ class is.
    let d = is.says.0 in
    let k = is.says.1 in
    done (type_named (class_encoded class.0) (Some kinds.Object), class.1) (record { written = is.written; took = is.took; says = (rw (d, k) refl, is.says.2) })

element_found : (tokens : List Token) → Makes (element_at true tokens) (Found element_encoded IsElement tokens)
element_found tokens = by (plain_type tokens) refl where
  by : (found : Option TypeName) → plain_type tokens ≡ found → Makes (element_of found true tokens) (Found element_encoded IsElement tokens)
  by (Some type) e =
      let is = plain_found tokens type e in
      done (type, drop 1 tokens) (record { written = is.element; took = is.took; says = (is.is, subst AreShort (sym is.unnamed) tt) })
  by None e = class_type_found tokens

pub brackets_more : (n : ℕ) → brackets_encoded n ++ Quoted (codes "[") ∷ Quoted (codes "]") ∷ [] ≡ brackets_encoded (suc n)
brackets_more zero = refl
brackets_more (suc n) = ap (λ (w : List Lexeme). Quoted (codes "[") ∷ Quoted (codes "]") ∷ w) (brackets_more n)

replicate_more : (n x : ℕ) → replicate n x ++ x ∷ [] ≡ replicate (suc n) x
replicate_more zero x = refl
replicate_more (suc n) x = ap (λ (w : List ℕ). x ∷ w) (replicate_more n x)

abbrev AreBrackets : ℕ → List ℕ → Type 0
AreBrackets n brackets = brackets ≡ replicate n 91

dimension_found : (start : List Token) (brackets : List ℕ) (tokens : List Token) → Found brackets_encoded AreBrackets start (brackets, tokens)
    → Makes (dimension_at brackets tokens) (Found brackets_encoded AreBrackets start)
unfolding dimension_at
dimension_found start brackets tokens before =
    then _ (after_found (codes "[") tokens) λ opened one.
    then _ (after_found (codes "]") opened) λ closed two.
    done (brackets ++ 91 ∷ [], closed) (record {
      written = suc before.written;
      took = encoded_as _ _ (brackets_more before.written) (joins before.took (joins one two));
      says = ap (λ (b : List ℕ). b ++ 91 ∷ []) before.says ∙ replicate_more before.written 91;
    })

pub array_is : (n : ℕ) (e : Element) → array_of (replicate n 91) (type_named (element_desc e) (element_kind e)) ≡ type_named (replicate n 91 ++ element_desc e) (kind_in n e)
array_is zero e = refl
array_is (suc n) e = refl

abbrev pub IsType : WrittenType → TypeName → Type 0
IsType written type = (type ≡ type_named (type_desc written) (type_kind written)) × AreShort (element_names written.element)

pub type_found : (tokens : List Token) → Makes (type_at true tokens) (Found type_encoded IsType tokens)
unfolding type_at
type_found tokens =
    then _ (element_found tokens) λ element one.
    then _ (each_makes (is_next (codes "[")) dimension_at (λ brackets left. Found brackets_encoded AreBrackets element.1 (brackets, left))
    (λ brackets left goes before. dimension_found element.1 brackets left before)
    [] element.1 (record { written = 0; took = nothing element.1; says = refl })) λ brackets two.
    let is = one.says.0 in
    let b = two.says in
    done (array_of brackets.0 element.0, brackets.1) (record {
      written = record { element = one.written; dimensions = two.written };
      took = joins one.took two.took;
      says = (rw (is, b) (array_is two.written one.written), one.says.1);
    })

-- ---- parameters

all_at : {X : Type 0} (P : X → Type 0) (xs : List X) (k : ℕ) (d : X) → AllByRecursion P xs → k < length xs → P (get_or xs k d)
all_at P [] k d all lt = absurd (omega arith)
all_at P (x ∷ xs) zero d all lt = all.0
all_at P (x ∷ xs) (suc k) d all lt = all_at P xs k d all.1 (omega arith)

all_joined : {X : Type 0} (P : X → Type 0) (xs ys : List X) → AllByRecursion P xs → AllByRecursion P ys → AllByRecursion P (xs ++ ys)
all_joined P [] ys a b = b
all_joined P (x ∷ xs) ys a b = (a.0, all_joined P xs ys a.1 b)

no_parameter : (written : List WrittenParam) (name : List ℕ) → is_parameter (map param_of written) name ≡ false → AllByRecursion (λ other. other ≢ name) (param_names written)
no_parameter [] name none = tt
no_parameter (p ∷ written) name none =
    let parts = or_parts (is_named p.name name) (is_parameter (map param_of written) name) none in
    by p.name parts.0 (no_parameter written name parts.1)
  where
    by : (given : Option (List ℕ)) → is_named given name ≡ false → AllByRecursion (λ other. other ≢ name) (param_names written)
        → AllByRecursion (λ other. other ≢ name) (optional given ++ param_names written)
    by None e others = others
    by (Some other) e others = (not_from_Decides _ (bytes_eq-Decides other name) e, others)

abbrev IsGiven : List Var → List Param → List ℕ → Type 0
IsGiven vars params name = (is_variable vars name ≡ false) × (is_parameter params name ≡ false) × IsTrue (is_short name)

abbrev MayBeGiven : List Var → List Param → Option (List ℕ) → Type 0
MayBeGiven vars params None = Unit {0}
MayBeGiven vars params (Some name) = IsGiven vars params name

abbrev IsParamName : List Var → List Param → Option (List ℕ) → Option (List ℕ) → Type 0
IsParamName vars params written name = (name ≡ written) × MayBeGiven vars params written

given_found : (vars : List Var) (params : List Param) (tokens : List Token)
    → Makes (given_name_at true vars params tokens) (λ r. Took tokens (one_name r.0) r.1 × IsGiven vars params r.0)
unfolding given_name_at
given_found vars params tokens =
    then _ (name_found tokens) λ name one.
    tested (not true || is_free vars params name.0) (Twice (front_at tokens)) _ λ once.
    tested (not true || is_short name.0) (Limit (front_at tokens)) _ λ short.
    let free = or_parts (is_variable vars name.0) (is_parameter params name.0) (not-true _ once) in
    done name (one, (free.0, free.1, short))

parameter_name_found : (vars : List Var) (params : List Param) (tokens : List Token)
    → Makes (parameter_name_at true vars params tokens) (Found name_encoded (IsParamName vars params) tokens)
parameter_name_found vars params tokens =
    either (is_name tokens) _ _
    (λ named. then _ (given_found vars params tokens) λ name is. done (Some name.0, name.1) (record { written = Some name.0; took = is.0; says = (refl, is.1) }))
    (λ plain. done (None, tokens) (record { written = None; took = nothing tokens; says = (refl, tt) }))

pub record AreParamsOf (vars : List Var) (written : List WrittenParam) (params : List Param) : Type 0 where
  pub is : params ≡ map param_of written
  pub fit : AreParams vars written

param_names_more : (written : List WrittenParam) (p : WrittenParam) → param_names (written ++ p ∷ []) ≡ param_names written ++ optional p.name
param_names_more written p =
    flat_map-append (λ (q : WrittenParam). optional q.name) written (p ∷ []) ∙ ap (λ (w : List (List ℕ)). param_names written ++ w) (append-nil (optional p.name))

one_more_param : (vars : List Var) (written : List WrittenParam) (type : WrittenType) (name : Option (List ℕ)) → AreParams vars written → AreShort (element_names type.element)
    → MayBeGiven vars (map param_of written) name → AreParams vars (written ++ (record { type = type; name = name }) ∷ [])
one_more_param vars written type name are short given = by name given where
  by : (name : Option (List ℕ)) → MayBeGiven vars (map param_of written) name → AreParams vars (written ++ (record { type = type; name = name }) ∷ [])
  by None free =
      let p : WrittenParam = record { type = type; name = None } in
      let same : param_names (written ++ p ∷ []) ≡ param_names written = param_names_more written p ∙ append-nil (param_names written) in
      record {
        once = subst (λ (ns : List (List ℕ)). AllPairs (λ a b. a ≢ b) ns) (sym same) are.once;
        own = subst (λ (ns : List (List ℕ)). AllByRecursion (λ n. is_variable vars n ≡ false) ns) (sym same) are.own;
        short = all_more (λ (q : WrittenParam). AreShort (names_of_param q)) written p are.short (all_joined (λ (n : List ℕ). IsTrue (is_short n)) (element_names type.element) [] short tt);
      }
  by (Some n) free =
      let p : WrittenParam = record { type = type; name = Some n } in
      let same : param_names (written ++ p ∷ []) ≡ param_names written ++ n ∷ [] = param_names_more written p in
      let others = no_parameter written n free.1 in
      record {
        once = subst (λ (ns : List (List ℕ)). AllPairs (λ a b. a ≢ b) ns) (sym same)
            (all_pairs_push (λ (a b : List ℕ). a ≢ b) (param_names written) n are.once (λ k d lt. all_at (λ (other : List ℕ). other ≢ n) (param_names written) k d others lt));
        own = subst (λ (ns : List (List ℕ)). AllByRecursion (λ m. is_variable vars m ≡ false) ns) (sym same)
            (all_more (λ (m : List ℕ). is_variable vars m ≡ false) (param_names written) n are.own free.0);
        short = all_more (λ (q : WrittenParam). AreShort (names_of_param q)) written p are.short
            (all_joined (λ (m : List ℕ). IsTrue (is_short m)) (element_names type.element) (n ∷ []) short (free.2, tt));
      }

pub record IsNextParam (vars : List Var) (before : List WrittenParam) (tokens : List Token) (read : List Param × List Token) : Type 0 where
  pub written : WrittenParam
  pub took : Took tokens (param_encoded written) read.1
  pub says : AreParamsOf vars (before ++ written ∷ []) read.0

parameter_found : (vars : List Var) (before : List WrittenParam) (params : List Param) (tokens : List Token) → AreParamsOf vars before params
    → Makes (parameter_at true vars params tokens) (IsNextParam vars before tokens)
unfolding parameter_at
parameter_found vars before params tokens are =
    then _ (type_found tokens) λ type one.
    then _ (parameter_name_found vars params type.1) λ name two.
    let p : WrittenParam = record { type = one.written; name = two.written } in
    let is = one.says.0 in
    let named = two.says.0 in
    let made : Param = record { name = name.0; desc = type.0.desc; kind = kind_or_object type.0.kind } in
    let same : made ≡ param_of p = rw (is, named) refl in
    done (params ++ made ∷ [], name.1) (record {
      written = p;
      took = joins one.took two.took;
      says = record {
        is = ap (λ (ps : List Param). ps ++ made ∷ []) are.is ∙ ap (λ (q : Param). map param_of before ++ q ∷ []) same ∙ sym (map-append param_of before (p ∷ []));
        fit = one_more_param vars before one.written two.written are.fit one.says.1 (subst (λ (ps : List Param). MayBeGiven vars ps two.written) are.is two.says.1);
      };
    })

next_parameter_found : (vars : List Var) (first : WrittenParam) (start : List Token) (params : List Param) (tokens : List Token)
    → Found (led (codes ",") param_encoded) (λ others ps. AreParamsOf vars (first ∷ others) ps) start (params, tokens)
    → Makes (next_parameter true vars params tokens) (Found (led (codes ",") param_encoded) (λ others ps. AreParamsOf vars (first ∷ others) ps) start)
unfolding next_parameter
next_parameter_found vars first start params tokens before =
    then _ (after_found (codes ",") tokens) λ comma one.
    said (parameter_found vars (first ∷ before.written) params comma before.says) λ r two.
    record {
      written = before.written ++ two.written ∷ [];
      took = encoded_as _ _ (led_more (codes ",") param_encoded before.written two.written) (joins before.took (joins one two.took));
      says = two.says;
    }

some_parameters_found : (vars : List Var) (tokens : List Token) → Makes (some_parameters true vars tokens) (Found params_encoded (AreParamsOf vars) tokens)
unfolding some_parameters
some_parameters_found vars tokens =
    then _ (parameter_found vars [] [] tokens (record { is = refl; fit = record { once = no_pairs (λ (a b : List ℕ). a ≢ b); own = tt; short = tt } })) λ first one.
    said (each_makes (is_next (codes ",")) (next_parameter true vars) (λ params left. Found (led (codes ",") param_encoded) (λ others ps. AreParamsOf vars (one.written ∷ others) ps) first.1 (params, left))
    (λ params left goes before. next_parameter_found vars one.written first.1 params left before)
    first.0 first.1 (record { written = []; took = nothing first.1; says = one.says })) λ r two.
    record { written = one.written ∷ two.written; took = joins one.took two.took; says = two.says }

pub parameters_found : (vars : List Var) (tokens : List Token) → Makes (parameters_at true vars tokens) (Found params_encoded (AreParamsOf vars) tokens)
parameters_found vars tokens =
    either (is_next (codes ")") tokens) _ _
    (λ none. done ([], tokens) (record { written = []; took = nothing tokens; says = record { is = refl; fit = record { once = no_pairs (λ (a b : List ℕ). a ≢ b); own = tt; short = tt } } }))
    (λ some. some_parameters_found vars tokens)
