-- A policy that is read tells the kinds of the arguments and of the results of its methods.
use Rattle.std.proofs.Common.{◌≡◌, ◌≢◌, ◌⊎◌, inl, inr, ℕ, zero, suc, ◌+◌, ◌≤◌, Bool, true, false, cond, ◌&&◌, List, [], ◌∷◌, ◌++◌, length, map, take, drop, replicate, Option, Some, None, refl, sym, ap, subst, ◌∙◌, eqb, append_assoc, arith}
use Rattle.std.specs.Prelude.{◌==◌, not, codes, slice_get, nat_lt, bytes_eq, option_map}
use Rattle.std.specs.List.{AllByRecursion, list_all, flat_map, position_from, prefix_len}
use Rattle.std.specs.Option.{option_map_or}
use Rattle.std.specs.Char.{is_ascii_digit}
use Rattle.std.proofs.lemmas.Bool.{false≢true}
use Rattle.std.proofs.lemmas.Bool.Decides.{eqb_tells}
use Rattle.std.proofs.lemmas.List.Folds.{list_all-append}
use Rattle.std.proofs.lemmas.Slice.Eq.{bytes_eq-Decides}
use Rattle.api_listing.specs.declared.descriptor.Element.{Element as ListedElement}
use Rattle.api_listing.specs.declared.descriptor.Element.TheVariants as elements
use Rattle.api_listing.specs.declared.descriptor.FieldType.{FieldType}
use Rattle.api_listing.specs.declared.descriptor.MethodType.{MethodType}
use Rattle.api_listing.specs.declared.types.ListedMethod.{ListedMethod}
use Rattle.api_listing.specs.declared.types.Listing.{Listing}
use Rattle.api_listing.specs.BuiltIn.{is_method}
use Rattle.api_listing.specs.Descriptor as listed
use Rattle.api_listing.specs.Descriptor.{EncodesDescriptor, class_encoded, is_element, is_type, named_only, until}
use Rattle.api_listing.specs.Nearest.{declared_in}
use Rattle.api_listing.specs.Words.{is_name_start, is_name_byte, is_class_name}
use Rattle.api_listing.proofs.DescriptorLaws.{both, name_again}
use Rattle.conspec_tokens.specs.declared.token.Lexeme.{Lexeme}
use Rattle.conspec_tokens.specs.declared.token.Lexeme.TheVariants.{Quoted, Name, Number, Wrong, End}
use Rattle.conspec_tokens.specs.declared.token.Token.{Token}
use Rattle.conspec_tokens.specs.declared.scanning.Piece.{Piece}
use Rattle.conspec_tokens.specs.declared.scanning.Piece.TheVariants.{Skips, Begins}
use Rattle.conspec_tokens.specs.declared.scanning.Spot.{Spot}
use Rattle.conspec_tokens.specs.declared.scanning.Spot.TheVariants.{Comment, Inside}
use Rattle.conspec_tokens.specs.Tokens.{number_of, number_from, first_sign, sign_of, word_at, digits_at, sign_at, is_blank, begins_comment, in_gap, seen, begun, next_spot, is_wrong, tokens_from, tokens_of}
use Rattle.conspec_tokens.specs.Words.{is_keyword, signs}
use Rattle.conspec_tree.specs.declared.types.Kind.{Kind}
use Rattle.conspec_tree.specs.declared.types.Kind.TheVariants as kinds
use Rattle.conspec_tree.specs.declared.types.PolicyTree.{PolicyTree}
use Rattle.conspec_tree.specs.declared.types.TreeClause.{TreeClause}
use Rattle.conspec_tree.specs.Kinds as tree
use Rattle.conspec_tree.specs.Kinds.{kind_or_object, kind_of}
use Rattle.conspec_tree.specs.Telling.{ClauseTellsKinds, ClauseTellsResult}
use Rattle.conspec_parse.specs.declared.signature.Param.{Param}
use Rattle.conspec_parse.specs.Meaning.{EachIs, below, joined, element_desc, element_kind, type_desc, type_kind, kind_in, param_of, method_bytes, IsClause, EncodesPolicy, lexemes}
use Rattle.conspec_parse.specs.Methods.{desc_of}
use Rattle.conspec_parse.specs.Telling.{KindsAreTold, ResultsAreTold}
use Rattle.conspec_parse.specs.Written as written
use Rattle.conspec_parse.specs.Written.{WrittenParam, WrittenClause, Written, led, one_name, params_encoded, param_encoded, clause_encoded, policy_encoded}
use Rattle.conspec_parse.specs.Written.Element.{Void, Int, Boolean, Byte, Short, Char, Class}

-- ---- lists

front_of : {X : Type 0} (P : X → Type 0) (xs ys : List X) → AllByRecursion P (xs ++ ys) → AllByRecursion P xs
front_of P [] ys all = tt
front_of P (x ∷ xs) ys all = (all.0, front_of P xs ys all.1)

back_of : {X : Type 0} (P : X → Type 0) (xs ys : List X) → AllByRecursion P (xs ++ ys) → AllByRecursion P ys
back_of P [] ys all = all
back_of P (x ∷ xs) ys all = back_of P xs ys all.1

each_part : {X Y : Type 0} (P : Y → Type 0) (f : X → List Y) (xs : List X) → AllByRecursion P (flat_map f xs) → AllByRecursion (λ x. AllByRecursion P (f x)) xs
each_part P f [] all = tt
each_part P f (x ∷ xs) all = (front_of P (f x) (flat_map f xs) all, each_part P f xs (back_of P (f x) (flat_map f xs) all))

-- ---- tokens

-- A name has the bytes of one.
abbrev IsGood : Lexeme → Type 0
IsGood (Name word) = list_all is_name_byte word ≡ true
IsGood other = Unit {0}

abbrev PieceIsGood : Piece → Type 0
PieceIsGood (Skips spot) = Unit {0}
PieceIsGood (Begins lexeme more) = IsGood lexeme

either_good : (test : Bool) (a b : Piece) → PieceIsGood a → PieceIsGood b → PieceIsGood (cond test a b)
either_good true a b x y = x
either_good false a b x y = y

front_passes : (p : ℕ → Bool) (xs : List ℕ) → list_all p (take (prefix_len p xs) xs) ≡ true
front_passes p [] = refl
front_passes p (x ∷ xs) = by (p x) refl (front_passes p xs) where
  by : (b : Bool) → p x ≡ b → list_all p (take (prefix_len p xs) xs) ≡ true → list_all p (take (cond b (1 + prefix_len p xs) 0) (x ∷ xs)) ≡ true
  by true is later =
      let n : 1 + prefix_len p xs ≡ suc (prefix_len p xs) = omega arith in
      rw (n, is, later) refl
  by false is later = refl

good_word : (test : Bool) (word : List ℕ) → list_all is_name_byte word ≡ true → IsGood (cond test (Quoted word) (Name word))
good_word true word e = tt
good_word false word e = e

good_number : (digits : List ℕ) → IsGood (number_of digits)
good_number [] = tt
good_number (b ∷ digits) = by (b == 48 && nat_lt 0 (length digits)) where
  by : (test : Bool) → IsGood (cond test Wrong (Number (number_from 0 (b ∷ digits))))
  by true = tt
  by false = tt

good_sign : (sign : List ℕ) → IsGood (sign_of sign)
good_sign [] = tt
good_sign (b ∷ sign) = tt

good_gap : (b : ℕ) (text : List ℕ) → PieceIsGood (in_gap b text)
good_gap b text =
    let word : List ℕ = take (prefix_len is_name_byte text) text in
    either_good (is_blank b) _ _ tt (
    either_good (begins_comment text) _ _ tt (
    either_good (is_name_start b) (word_at text) (cond (is_ascii_digit b) (digits_at text) (sign_at text)) (good_word (is_keyword word) word (front_passes is_name_byte text)) (
    either_good (is_ascii_digit b) (digits_at text) (sign_at text) (good_number (take (prefix_len is_ascii_digit text) text)) (good_sign (take (first_sign signs text) text)))))

good_seen : (spot : Spot) (b : ℕ) (text : List ℕ) → PieceIsGood (seen spot b text)
good_seen Comment b text = either_good (b == 10) _ _ tt tt
good_seen (Inside zero) b text = good_gap b text
good_seen (Inside (suc n)) b text = tt

abbrev AreGood : List Lexeme → Type 0
AreGood words = AllByRecursion IsGood words

good_next : (at : ℕ) (piece : Piece) (tokens : Spot → List Token) → PieceIsGood piece → ((next : Spot) → AreGood (lexemes (tokens next)))
    → AreGood (lexemes (begun at piece ++ option_map_or tokens (next_spot piece) []))
good_next at (Skips next) tokens good later = later next
good_next at (Begins lexeme more) tokens good later = (good, by (is_wrong lexeme)) where
  by : (wrong : Bool) → AreGood (lexemes (option_map_or tokens (cond wrong None (Some (Inside more))) []))
  by true = tt
  by false = later (Inside more)

good_from : (text : List ℕ) (spot : Spot) (at : ℕ) → AreGood (lexemes (tokens_from spot at text))
good_from [] spot at = (tt, tt)
good_from (b ∷ rest) spot at = good_next at (seen spot b (b ∷ rest)) (λ next. tokens_from next (at + 1) rest) (good_seen spot b (b ∷ rest)) (λ next. good_from rest next (at + 1))

good_tokens : (text : List ℕ) → AreGood (lexemes (tokens_of text))
unfolding tokens_of
good_tokens text = good_from text (Inside 0) 0

-- ---- what is written

good_clauses : (p : Written) → AreGood (policy_encoded p) → AllByRecursion (λ (c : WrittenClause). AreGood (clause_encoded c)) p.clauses
good_clauses p good =
    let following = back_of IsGood (written.header_encoded p.maxint) _ good in
    let clauses = back_of IsGood (flat_map written.variable_encoded p.vars) _ following in
    each_part IsGood clause_encoded p.clauses (front_of IsGood (flat_map clause_encoded p.clauses) (End ∷ []) clauses)

good_params : (params : List WrittenParam) → AreGood (params_encoded params) → AllByRecursion (λ (p : WrittenParam). AreGood (param_encoded p)) params
good_params [] good = tt
good_params (p ∷ params) good =
    let others = each_part IsGood (λ (q : WrittenParam). Quoted (codes ",") ∷ param_encoded q) params (back_of IsGood (param_encoded p) _ good) in
    (front_of IsGood (param_encoded p) _ good, without params others)
  where
    without : (params : List WrittenParam) → AllByRecursion (λ (q : WrittenParam). AreGood (Quoted (codes ",") ∷ param_encoded q)) params → AllByRecursion (λ (q : WrittenParam). AreGood (param_encoded q)) params
    without [] all = tt
    without (q ∷ params) all = (all.0.1, without params all.1)

clause_params : (c : WrittenClause) → AreGood (clause_encoded c) → AllByRecursion (λ (p : WrittenParam). AreGood (param_encoded p)) c.params
clause_params c good =
    let a = back_of IsGood (written.type_encoded c.type) _ good.1 in
    let b = back_of IsGood (written.result_encoded c.result) _ a in
    let signature = front_of IsGood (written.signature_encoded c.class c.method c.params) _ b in
    let parens = back_of IsGood (written.path_encoded c.class c.method) _ signature in
    good_params c.params (front_of IsGood (params_encoded c.params) (Quoted (codes ")") ∷ []) parens.1)

-- ---- names have no `;`

abbrev is_inner : ℕ → Bool
is_inner b = not (eqb b 59)

name_byte : (b : ℕ) → is_name_byte b ≡ true → is_inner b ≡ true
name_byte b named = by (eqb_tells b 59) where
  by : ((eqb b 59 ≡ true) × (b ≡ 59)) ⊎ ((eqb b 59 ≡ false) × (b ≢ 59)) → is_inner b ≡ true
  by (inl p) = absurd (false≢true (sym (ap is_name_byte p.1) ∙ named))
  by (inr p) = rw p.0 refl

inner_name : (name : List ℕ) → list_all is_name_byte name ≡ true → list_all is_inner name ≡ true
inner_name [] e = refl
inner_name (b ∷ name) e =
    let p = both (is_name_byte b) (list_all is_name_byte name) e in
    rw (name_byte b p.0, inner_name name p.1) refl

inner_path : (others : List (List ℕ)) → AreGood (led (codes ".") one_name others) → list_all is_inner (flat_map below others) ≡ true
inner_path [] good = refl
inner_path (name ∷ others) good =
    let here = inner_name name good.1.0 in
    let rest = inner_path others good.1.1 in
    list_all-append is_inner (below name) (flat_map below others) ∙ rw (here, rest) refl

inner_class : (first : List ℕ) (others : List (List ℕ)) → AreGood (written.element_encoded (Class first others)) → list_all is_inner (joined (first ∷ others)) ≡ true
inner_class first others good =
    let here = inner_name first good.0 in
    let rest = inner_path others good.1 in
    list_all-append is_inner first (flat_map below others) ∙ rw (here, rest) refl

until_more : (b : ℕ) (name rest : List ℕ) → is_inner b ≡ true → until 59 (name ++ 59 ∷ rest) ≡ Some (name, rest) → until 59 (b ∷ (name ++ 59 ∷ rest)) ≡ Some (b ∷ name, rest)
until_more b name rest inner others = by (eqb_tells b 59) where
  by : ((eqb b 59 ≡ true) × (b ≡ 59)) ⊎ ((eqb b 59 ≡ false) × (b ≢ 59)) → until 59 (b ∷ (name ++ 59 ∷ rest)) ≡ Some (b ∷ name, rest)
  by (inl p) = absurd (false≢true (sym (ap not p.0) ∙ inner))
  by (inr p) = rw (p.0, others) refl

until_inner : (name rest : List ℕ) → list_all is_inner name ≡ true → until 59 (name ++ 59 ∷ rest) ≡ Some (name, rest)
until_inner [] rest e = refl
until_inner (b ∷ name) rest e =
    let p = both (is_inner b) (list_all is_inner name) e in
    until_more b name rest p.0 (until_inner name rest p.1)

until_named : (name rest : List ℕ) → is_class_name name ≡ true → until 59 (name ++ 59 ∷ rest) ≡ Some (name, rest)
until_named name rest named = by (until 59 (name ++ 59 ∷ rest)) (name_again name rest named) where
  when : (r : List ℕ × List ℕ) (test : Bool) → cond test (Some r) None ≡ Some (name, rest) → Some r ≡ Some (name, rest)
  when r true e = e
  when r false e = absurd cc

  by : (read : Option (List ℕ × List ℕ)) → named_only read ≡ Some (name, rest) → read ≡ Some (name, rest)
  by None e = absurd cc
  by (Some r) e = when r (is_class_name r.0) e

-- ---- texts of types

-- the kind of the type that begins a text
abbrev kind_at : List ℕ → Kind
kind_at [] = kinds.Object
kind_at (b ∷ text) =
    cond (b == 90) kinds.Bool (cond (b == 66) kinds.Byte (cond (b == 67) kinds.Char (cond (b == 83) kinds.Short (cond (b == 73) kinds.Int kinds.Object))))

abbrev after_name : List ℕ → List ℕ
after_name text = option_map_or (λ (r : List ℕ × List ℕ). r.1) (until 59 text) []

-- what stands after the type that begins a text
abbrev after_type : List ℕ → List ℕ
after_type [] = []
after_type (b ∷ text) = cond (b == 91) (after_type text) (cond (b == 76) (after_name text) text)

-- whether `)` begins the text
abbrev closes : List ℕ → Bool
closes [] = false
closes (b ∷ text) = b == 41

-- The text is that of a type of this kind, whatever stands after it.
record IsTypeText (text : List ℕ) (kind : Kind) : Type 0 where
  told : (rest : List ℕ) → kind_at (text ++ rest) ≡ kind
  passed : (rest : List ℕ) → after_type (text ++ rest) ≡ rest
  opens : (rest : List ℕ) → closes (text ++ rest) ≡ false

class_text : (name : List ℕ) → ((rest : List ℕ) → until 59 (name ++ 59 ∷ rest) ≡ Some (name, rest)) → IsTypeText (class_encoded name) kinds.Object
class_text name found = record { told = λ rest. refl; passed = passed; opens = λ rest. refl } where
  passed : (rest : List ℕ) → after_name ((name ++ 59 ∷ []) ++ rest) ≡ rest
  passed rest = ap after_name (append_assoc name (59 ∷ []) rest) ∙ ap (λ (r : Option (List ℕ × List ℕ)). option_map_or (λ (p : List ℕ × List ℕ). p.1) r []) (found rest)

array_passed : (n : ℕ) (text : List ℕ) (kind : Kind) → IsTypeText text kind → (rest : List ℕ) → after_type ((replicate n 91 ++ text) ++ rest) ≡ rest
array_passed zero text kind is rest = is.passed rest
array_passed (suc n) text kind is rest = array_passed n text kind is rest

array_text : (n : ℕ) (text : List ℕ) (kind : Kind) → IsTypeText text kind → IsTypeText (replicate (suc n) 91 ++ text) kinds.Object
array_text n text kind is = record { told = λ rest. refl; passed = array_passed n text kind is; opens = λ rest. refl }

element_text : (e : written.Element) → AreGood (written.element_encoded e) → IsTypeText (element_desc e) (kind_or_object (element_kind e))
element_text Void good = record { told = λ rest. refl; passed = λ rest. refl; opens = λ rest. refl }
element_text Int good = record { told = λ rest. refl; passed = λ rest. refl; opens = λ rest. refl }
element_text Boolean good = record { told = λ rest. refl; passed = λ rest. refl; opens = λ rest. refl }
element_text Byte good = record { told = λ rest. refl; passed = λ rest. refl; opens = λ rest. refl }
element_text Short good = record { told = λ rest. refl; passed = λ rest. refl; opens = λ rest. refl }
element_text Char good = record { told = λ rest. refl; passed = λ rest. refl; opens = λ rest. refl }
element_text (Class first others) good =
    class_text (joined (first ∷ others)) (λ rest. until_inner (joined (first ∷ others)) rest (inner_class first others good))

written_text : (n : ℕ) (e : written.Element) → AreGood (written.element_encoded e) → IsTypeText (replicate n 91 ++ element_desc e) (kind_or_object (kind_in n e))
written_text zero e good = element_text e good
written_text (suc n) e good = array_text n (element_desc e) (kind_or_object (element_kind e)) (element_text e good)

listed_element : (e : ListedElement) → is_element e ≡ true → IsTypeText (listed.element_encoded e) (tree.element_kind e)
listed_element elements.Boolean is = record { told = λ rest. refl; passed = λ rest. refl; opens = λ rest. refl }
listed_element elements.Byte is = record { told = λ rest. refl; passed = λ rest. refl; opens = λ rest. refl }
listed_element elements.Char is = record { told = λ rest. refl; passed = λ rest. refl; opens = λ rest. refl }
listed_element elements.Short is = record { told = λ rest. refl; passed = λ rest. refl; opens = λ rest. refl }
listed_element elements.Int is = record { told = λ rest. refl; passed = λ rest. refl; opens = λ rest. refl }
listed_element (elements.Class name) is = class_text name (λ rest. until_named name rest is)

listed_text : (n : ℕ) (e : ListedElement) → is_element e ≡ true → IsTypeText (replicate n 91 ++ listed.element_encoded e) (tree.array_kind n e)
listed_text zero e is = listed_element e is
listed_text (suc n) e is = array_text n (listed.element_encoded e) (tree.element_kind e) (listed_element e is)

params_text : (params : List WrittenParam) → AllByRecursion (λ (p : WrittenParam). AreGood (param_encoded p)) params → AllByRecursion (λ (p : Param). IsTypeText p.desc p.kind) (map param_of params)
params_text [] all = tt
params_text (p ∷ params) all =
    let type = front_of IsGood (written.type_encoded p.type) _ all.0 in
    let element = front_of IsGood (written.element_encoded p.type.element) _ type in
    (written_text p.type.dimensions p.type.element element, params_text params all.1)

types_text : (ts : List FieldType) → list_all is_type ts ≡ true → AllByRecursion (λ (t : FieldType). IsTypeText (listed.type_encoded t) (kind_of t)) ts
types_text [] all = tt
types_text (t ∷ ts) all =
    let p = both (is_type t) (list_all is_type ts) all in
    (listed_text t.dimensions t.element p.0, types_text ts p.1)

-- Types that are encoded alike up to the `)` are of the same kinds, and the same stands after it.
same_types : {X Y : Type 0} (xd : X → List ℕ) (xk : X → Kind) (yd : Y → List ℕ) (yk : Y → Kind) (xs : List X) (ys : List Y) (a b : List ℕ)
    → AllByRecursion (λ (x : X). IsTypeText (xd x) (xk x)) xs → AllByRecursion (λ (y : Y). IsTypeText (yd y) (yk y)) ys
    → flat_map xd xs ++ 41 ∷ a ≡ flat_map yd ys ++ 41 ∷ b → (map xk xs ≡ map yk ys) × (a ≡ b)
same_types xd xk yd yk [] [] a b p q e = (refl, ap (drop 1) e)
same_types xd xk yd yk [] (y ∷ ys) a b p q e =
    let split = append_assoc (yd y) (flat_map yd ys) (41 ∷ b) in
    absurd (false≢true (sym (q.0.opens (flat_map yd ys ++ 41 ∷ b)) ∙ sym (ap closes (e ∙ split))))
same_types xd xk yd yk (x ∷ xs) [] a b p q e =
    let split = append_assoc (xd x) (flat_map xd xs) (41 ∷ a) in
    absurd (false≢true (sym (p.0.opens (flat_map xd xs ++ 41 ∷ a)) ∙ ap closes (sym split ∙ e)))
same_types xd xk yd yk (x ∷ xs) (y ∷ ys) a b p q e =
    let left : List ℕ = flat_map xd xs ++ 41 ∷ a in
    let right : List ℕ = flat_map yd ys ++ 41 ∷ b in
    let same : xd x ++ left ≡ yd y ++ right = sym (append_assoc (xd x) (flat_map xd xs) (41 ∷ a)) ∙ (e ∙ append_assoc (yd y) (flat_map yd ys) (41 ∷ b)) in
    let kind : xk x ≡ yk y = sym (p.0.told left) ∙ (ap kind_at same ∙ q.0.told right) in
    let rest : left ≡ right = sym (p.0.passed left) ∙ (ap after_type same ∙ q.0.passed right) in
    let others = same_types xd xk yd yk xs ys a b p.1 q.1 rest in
    (rw (kind, others.0) refl, others.1)

-- ---- results

-- the kind of the result that is encoded so; `V` is none
abbrev result_at : List ℕ → Option Kind
result_at [] = None
result_at (b ∷ text) = cond (b == 86) None (Some (kind_at (b ∷ text)))

written_result : (n : ℕ) (e : written.Element) → result_at (replicate n 91 ++ element_desc e) ≡ kind_in n e
written_result zero Void = refl
written_result zero Int = refl
written_result zero Boolean = refl
written_result zero Byte = refl
written_result zero Short = refl
written_result zero Char = refl
written_result zero (Class first others) = refl
written_result (suc n) e = refl

listed_type : (n : ℕ) (e : ListedElement) → result_at (replicate n 91 ++ listed.element_encoded e) ≡ Some (tree.array_kind n e)
listed_type zero elements.Boolean = refl
listed_type zero elements.Byte = refl
listed_type zero elements.Char = refl
listed_type zero elements.Short = refl
listed_type zero elements.Int = refl
listed_type zero (elements.Class name) = refl
listed_type (suc n) e = refl

listed_result : (result : Option FieldType) → result_at (listed.result_encoded result) ≡ option_map kind_of result
listed_result None = refl
listed_result (Some t) = listed_type t.dimensions t.element

-- ---- the methods of the listing

some_is : {X : Type 0} (x y : X) → ◌≡◌ {A = Option X} (Some x) (Some y) → x ≡ y
some_is x y e = cc

position_from-le : {X : Type 0} (test : X → Bool) (xs : List X) (from k : ℕ) → position_from test from xs ≡ Some k → from ≤ k
position_from-le test [] from k e = absurd cc
position_from-le {X = X} test (x ∷ xs) from k e = by (test x) e (position_from-le test xs (from + 1) k) where
  by : (b : Bool) → cond b (Some from) (position_from test (from + 1) xs) ≡ Some k → (position_from test (from + 1) xs ≡ Some k → from + 1 ≤ k) → from ≤ k
  by true e later =
      let same : from ≡ k = some_is from k e in
      omega (arith, same)
  by false e later = omega (arith, later e)

-- what stands at the first place that passes passes
stands : {X : Type 0} (test : X → Bool) (xs : List X) (from i : ℕ) (x : X) → position_from test from xs ≡ Some (from + i) → slice_get xs i ≡ Some x → test x ≡ true
stands test [] from i x e there = absurd cc
stands {X = X} test (y ∷ xs) from i x e there = by (test y) refl i e there (λ j. stands test xs (from + 1) j x) where
  by : (b : Bool) → test y ≡ b → (i : ℕ) → cond b (Some from) (position_from test (from + 1) xs) ≡ Some (from + i) → slice_get (y ∷ xs) i ≡ Some x
      → ((j : ℕ) → position_from test (from + 1) xs ≡ Some (from + 1 + j) → slice_get xs j ≡ Some x → test x ≡ true) → test x ≡ true
  by true is zero e there later = ap test (sym (some_is y x there)) ∙ is
  by true is (suc i) e there later =
      let same : from ≡ from + suc i = some_is from (from + suc i) e in
      absurd (omega (arith, same))
  by false is zero e there later =
      let low : from + 1 ≤ from + 0 = position_from-le test xs (from + 1) (from + 0) e in
      absurd (omega (arith, low))
  by false is (suc i) e there later =
      let n : from + suc i ≡ from + 1 + i = omega arith in
      later i (e ∙ ap Some n) there

-- The method of the index has the descriptor that a clause is written with.
described_by : (methods : List ListedMethod) (name desc class : List ℕ) (index : ℕ) (m : ListedMethod) → declared_in methods name desc class ≡ Some index → slice_get methods index ≡ Some m → m.id.desc ≡ desc
described_by methods name desc class index m found there =
    let front : index ≡ 0 + index = omega arith in
    let passes : is_method class name desc m.id ≡ true = stands (λ (x : ListedMethod). is_method class name desc x.id) methods 0 index m (found ∙ ap Some front) there in
    let inner = both (bytes_eq m.id.class class) (bytes_eq m.id.name name && bytes_eq m.id.desc desc) passes in
    let last = both (bytes_eq m.id.name name) (bytes_eq m.id.desc desc) inner.1 in
    (bytes_eq-Decides m.id.desc desc).0 last.1

-- ---- clauses

-- the kinds of the arguments, and that of the result
abbrev Tells : TreeClause → MethodType → Type 0
Tells clause types = (clause.args ≡ map kind_of types.arguments) × (clause.result ≡ option_map kind_of types.result)

clause_tells : (listing : Listing) (tree : PolicyTree) (text : WrittenClause) (clause : TreeClause) → IsClause listing.methods tree.vars tree.maxint text clause → AreGood (clause_encoded text)
    → (m : ListedMethod) (types : MethodType) → slice_get listing.methods clause.method ≡ Some m → EncodesDescriptor m.id.desc types → Tells clause types
clause_tells listing tree text clause is good m types there encoded =
    let params : List Param = map param_of text.params in
    let result : List ℕ = type_desc text.type in
    let desc : m.id.desc ≡ desc_of params result =
    described_by listing.methods (method_bytes text.method) (desc_of params result) (joined text.class) clause.method m is.method.listed there in
    let same : flat_map (λ (p : Param). p.desc) params ++ 41 ∷ result ≡ flat_map listed.type_encoded types.arguments ++ 41 ∷ listed.result_encoded types.result =
    ap (drop 1) (sym desc ∙ encoded.encoded) in
    let args : clause.args ≡ map (λ (p : Param). p.kind) params = ap (λ (c : TreeClause). c.args) is.is in
    let given : clause.result ≡ type_kind text.type = ap (λ (c : TreeClause). c.result) is.is in
    let alike =
    same_types (λ (p : Param). p.desc) (λ (p : Param). p.kind) listed.type_encoded kind_of params types.arguments result (listed.result_encoded types.result)
    (params_text text.params (clause_params text good)) (types_text types.arguments encoded.arguments) same in
    let told = written_result text.type.dimensions text.type.element in
    (args ∙ alike.0, given ∙ sym told ∙ ap result_at alike.1 ∙ listed_result types.result)

-- what each clause of a written policy tells
each_tells : (P : TreeClause → Type 0) (listing : Listing) (tree : PolicyTree) (texts : List WrittenClause) (clauses : List TreeClause)
    → ((w : WrittenClause) (c : TreeClause) → IsClause listing.methods tree.vars tree.maxint w c → AreGood (clause_encoded w) → P c)
    → EachIs (IsClause listing.methods tree.vars tree.maxint) texts clauses
    → AllByRecursion (λ (c : WrittenClause). AreGood (clause_encoded c)) texts → AllByRecursion P clauses
each_tells P listing tree [] [] tells each good = tt
each_tells P listing tree [] (c ∷ clauses) tells each good = absurd each
each_tells P listing tree (w ∷ texts) [] tells each good = absurd each
each_tells P listing tree (w ∷ texts) (c ∷ clauses) tells each good = (tells w c each.0 good.0, each_tells P listing tree texts clauses tells each.1 good.1)

all_tell : (P : TreeClause → Type 0) (text : List ℕ) (listing : Listing) (tree : PolicyTree) → EncodesPolicy text listing tree
    → ((w : WrittenClause) (c : TreeClause) → IsClause listing.methods tree.vars tree.maxint w c → AreGood (clause_encoded w) → P c)
    → AllByRecursion P tree.clauses
all_tell P text listing tree encoded tells =
    let good : AreGood (policy_encoded encoded.written) = subst AreGood encoded.tokens (good_tokens text) in
    each_tells P listing tree encoded.written.clauses tree.clauses tells encoded.says.clauses (good_clauses encoded.written good)

pub kinds_are_told : KindsAreTold
kinds_are_told text listing tree encoded =
    all_tell (ClauseTellsKinds listing) text listing tree encoded (λ w c is good m types there desc. (clause_tells listing tree w c is good m types there desc).0)

pub results_are_told : ResultsAreTold
results_are_told text listing tree encoded =
    all_tell (ClauseTellsResult listing) text listing tree encoded (λ w c is good m types there desc. (clause_tells listing tree w c is good m types there desc).1)
