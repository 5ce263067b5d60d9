-- What is encoded is read: guards and updates.
use Rattle.std.proofs.Common.{◌≡◌, ◌≢◌, ℕ, ◌+◌, ◌<◌, ◌≤◌, ℤ, pos, neg_ℤ, Bool, true, false, cond, List, [], ◌∷◌, ◌++◌, length, drop, Option, Some, None, refl, sym, ap, subst, ◌∙◌, arith, append_assoc, length-append}
use Rattle.std.specs.Prelude.{is_some, ◌≤ℤ◌, not, codes, bytes_eq, nat_lt, nat_le, int_le, AllPairs, ◌||◌, ◌&&◌, ◌==◌}
use Rattle.std.specs.List.{AllByRecursion, flat_map}
use Rattle.std.specs.Ordering.{int_eq}
use Rattle.std.proofs.lemmas.Bool.{le-leb, lt-ltb, eqb-true, eq-eqb}
use Rattle.std.proofs.lemmas.Bool.Decides.{nat_tests, Decides-int_eq}
use Rattle.std.proofs.lemmas.Int.{ints}
use Rattle.conspec_tokens.specs.declared.token.Lexeme.{Lexeme}
use Rattle.conspec_tokens.specs.declared.token.Lexeme.TheVariants.{Quoted, Name, Number}
use Rattle.conspec_tokens.specs.declared.token.Token.{Token}
use Rattle.conspec_tree.specs.declared.types.Atom.{Atom}
use Rattle.conspec_tree.specs.declared.types.Base.{Base}
use Rattle.conspec_tree.specs.declared.types.Kind.{Kind}
use Rattle.conspec_tree.specs.declared.types.Rel.{Rel}
use Rattle.conspec_tree.specs.declared.types.Rel.TheVariants as rels
use Rattle.conspec_tree.specs.declared.types.Update.{Update}
use Rattle.conspec_tree.specs.declared.types.Update.TheVariants.{Set, Add}
use Rattle.conspec_tree.specs.declared.types.Var.{Var}
use Rattle.conspec_parse.specs.declared.fault.PolicyFault.TheVariants.{Name as WrongName, Kind as WrongKind, Range, Twice, Limit}
use Rattle.conspec_tokens.specs.Front.{front_at, is_next, is_name}
use Rattle.conspec_parse.specs.Forms.{taken}
use Rattle.conspec_tree.specs.Variables.{variable_from}
use Rattle.conspec_parse.specs.Scope.{Scope, base_named}
use Rattle.conspec_tree.specs.Kinds.{is_truth, is_number}
use Rattle.conspec_parse.specs.Guards.{next_rel, truth_value, negative_at, positive_at, constant_at, atom_at, next_atom, no_atoms, atoms_at, conj_at, next_conj, conjs_at}
use Rattle.conspec_tree.specs.Kinds.{is_equality}
use Rattle.conspec_tree.specs.Updates.{target, is_updated, range_atoms, all_range_atoms}
use Rattle.conspec_parse.specs.Updates.{set_at, next_sign, signed, sum_at, right_at, update_at, block_at}
use Rattle.conspec_parse.specs.Written.{Constant, WrittenAtom, Right, WrittenUpdate, rel_encoded, constant_encoded, atom_encoded, conj_encoded, sign_encoded, right_encoded, update_encoded}
use Rattle.conspec_parse.specs.Written.Constant.{Truth, Natural, Minus}
use Rattle.conspec_parse.specs.Written.Right.{Value, Sum}
use Rattle.conspec_parse.specs.Meaning.{EachIs, value_of, IsConstant, IsAtom, IsSet, IsSum, IsRight, IsUpdate, lexemes}
use Rattle.conspec_parse.proofs.Got.{Got, ended, ended_as, gets, passes, holds, there, on_true, on_false, heads, head_name, next_at, is_name_here, drop_one, same_bytes, next_quoted, after_again, taken_again, name_again, number_again, Parts, each_again, Steps, Grows, grows}
use Rattle.conspec_parse.proofs.Again.{Always, stops_at}
use Rattle.conspec_parse.proofs.AgainMethods.{apart_before}

-- ---- constants and relations

true_again : (truth : Bool) (tokens : List Token) (words : List Lexeme) → truth ≡ true → lexemes tokens ≡ Quoted (codes "true") ∷ words → Got (truth_value 1 truth tokens) (pos 1) words
unfolding truth_value
true_again truth tokens words is e = holds truth (WrongKind (front_at tokens)) _ is (ended (pos 1) (drop 1 tokens) (drop_one tokens (Quoted (codes "true")) words e))

false_again : (truth : Bool) (tokens : List Token) (words : List Lexeme) → truth ≡ true → lexemes tokens ≡ Quoted (codes "false") ∷ words → Got (truth_value 0 truth tokens) (pos 0) words
unfolding truth_value
false_again truth tokens words is e = holds truth (WrongKind (front_at tokens)) _ is (ended (pos 0) (drop 1 tokens) (drop_one tokens (Quoted (codes "false")) words e))

negative_again : (n : ℕ) (tokens : List Token) (words : List Lexeme) → n ≤ 2147483648 → lexemes tokens ≡ Quoted (codes "-") ∷ Number n ∷ words → Got (negative_at false tokens) (neg_ℤ (pos n)) words
unfolding negative_at
negative_again n tokens words low e =
    gets _ (number_again n (drop 1 tokens) words (drop_one tokens (Quoted (codes "-")) (Number n ∷ words) e)) λ rest left.
    holds (nat_le n 2147483648) (Range (front_at tokens)) _ (le-leb _ _ low) (
    ended (neg_ℤ (pos n)) rest left)

positive_again : (n : ℕ) (tokens : List Token) (words : List Lexeme) → n ≤ 2147483647 → lexemes tokens ≡ Number n ∷ words → Got (positive_at false tokens) (pos n) words
unfolding positive_at
positive_again n tokens words low e =
    gets _ (number_again n tokens words e) λ rest left.
    holds (nat_lt n 2147483648) (Range (front_at tokens)) _ (lt-ltb _ _ (omega arith)) (
    ended (pos n) rest left)

constant_again : (truth : Bool) (c : Constant) (tokens : List Token) (words : List Lexeme) → IsConstant truth c → lexemes tokens ≡ constant_encoded c ++ words
    → Got (constant_at truth tokens) (value_of c) words
constant_again true (Truth true) tokens words fits e =
    on_true (is_next (codes "true") tokens) _ _ (next_at (codes "true") tokens _ e) (true_again true tokens words refl e)
constant_again true (Truth false) tokens words fits e =
    on_false (is_next (codes "true") tokens) _ _ (next_at (codes "true") tokens _ e) (
    on_true (is_next (codes "false") tokens) _ _ (next_at (codes "false") tokens _ e) (false_again true tokens words refl e))
constant_again true (Natural n) tokens words fits e = absurd fits
constant_again true (Minus n) tokens words fits e = absurd fits
constant_again false (Truth b) tokens words fits e = absurd fits
constant_again false (Natural n) tokens words fits e =
    on_false (is_next (codes "true") tokens) _ _ (next_at (codes "true") tokens _ e) (
    on_false (is_next (codes "false") tokens) _ _ (next_at (codes "false") tokens _ e) (
    on_false (is_next (codes "-") tokens) _ _ (next_at (codes "-") tokens _ e) (positive_again n tokens words fits e)))
constant_again false (Minus n) tokens words fits e =
    on_false (is_next (codes "true") tokens) _ _ (next_at (codes "true") tokens _ e) (
    on_false (is_next (codes "false") tokens) _ _ (next_at (codes "false") tokens _ e) (
    on_true (is_next (codes "-") tokens) _ _ (next_at (codes "-") tokens _ e) (negative_again n tokens words fits e)))

abbrev rel_words : List Lexeme → Option Rel
rel_words words =
    cond (heads (codes "==") words) (Some rels.Eq) (
    cond (heads (codes "!=") words) (Some rels.Ne) (
    cond (heads (codes "<") words) (Some rels.Lt) (
    cond (heads (codes "<=") words) (Some rels.Le) (
    cond (heads (codes ">") words) (Some rels.Gt) (
    cond (heads (codes ">=") words) (Some rels.Ge) None)))))

rel_at : (tokens : List Token) (words : List Lexeme) → lexemes tokens ≡ words → next_rel tokens ≡ rel_words words
rel_at tokens words e =
    let a = next_at (codes "==") tokens words e in
    let b = next_at (codes "!=") tokens words e in
    let c = next_at (codes "<") tokens words e in
    let d = next_at (codes "<=") tokens words e in
    let f = next_at (codes ">") tokens words e in
    let g = next_at (codes ">=") tokens words e in
    rw (a, b, c, d, f, g) refl

rel_first : (rel : Rel) (words : List Lexeme) → rel_words (rel_encoded rel ∷ words) ≡ Some rel
rel_first rels.Eq words = refl
rel_first rels.Ne words = refl
rel_first rels.Lt words = refl
rel_first rels.Le words = refl
rel_first rels.Gt words = refl
rel_first rels.Ge words = refl

rel_again : (rel : Rel) (tokens : List Token) (words : List Lexeme) → lexemes tokens ≡ rel_encoded rel ∷ words → Got (taken (next_rel tokens) tokens) rel words
rel_again rel tokens words e = taken_again (next_rel tokens) rel tokens (rel_encoded rel) words (rel_at tokens _ e ∙ rel_first rel words) e

sign_again : (minus : Bool) (tokens : List Token) (words : List Lexeme) → lexemes tokens ≡ sign_encoded minus ∷ words → Got (taken (next_sign tokens) tokens) minus words
sign_again false tokens words e =
    let a = next_at (codes "+") tokens _ e in
    taken_again (next_sign tokens) false tokens (Quoted (codes "+")) words (rw a refl) e
sign_again true tokens words e =
    let a = next_at (codes "+") tokens _ e in
    let b = next_at (codes "-") tokens _ e in
    taken_again (next_sign tokens) true tokens (Quoted (codes "-")) words (rw (a, b) refl) e

-- ---- atoms

equal_is : (truth : Bool) (equal : Bool) → (truth ≡ true → equal ≡ true) → (not truth || equal) ≡ true
equal_is true equal is = is refl
equal_is false equal is = refl

atom_is : (written : WrittenAtom) (atom : Atom) → atom.rel ≡ written.rel → atom.value ≡ value_of written.constant
    → record { base = atom.base; rel = written.rel; value = value_of written.constant } ≡ atom
atom_is written atom rel value =
    ap (λ (r : Rel). record { base = atom.base; rel = r; value = value_of written.constant }) (sym rel)
    ∙ ap (λ (v : ℤ). record { base = atom.base; rel = atom.rel; value = v }) (sym value)

atom_again : (scope : Scope) (room : Bool) (written : WrittenAtom) (atom : Atom) (tokens : List Token) (words : List Lexeme) → room ≡ true → IsAtom scope written atom
    → lexemes tokens ≡ atom_encoded written ++ words → Got (atom_at scope room tokens) atom words
unfolding atom_at
atom_again scope room written atom tokens words free is e =
    let found : Base × Kind = (atom.base, is.kind) in
    gets _ (name_again written.name tokens (rel_encoded written.rel ∷ (constant_encoded written.constant ++ words)) e) λ rest one.
    there (base_named scope written.name) found (WrongName (front_at tokens)) _ is.named (
    holds (is_number is.kind) (WrongKind (front_at tokens)) _ is.asked (
    holds room (Limit (front_at tokens)) _ free (
    gets _ (rel_again written.rel rest (constant_encoded written.constant ++ words) one) λ value two.
    holds (not (is_truth is.kind) || is_equality written.rel) (WrongKind (front_at rest)) _ (equal_is (is_truth is.kind) (is_equality written.rel) is.equal) (
    gets _ (constant_again (is_truth is.kind) written.constant value words is.fits two) λ end three.
    ended_as (record { base = atom.base; rel = written.rel; value = value_of written.constant }) atom end (atom_is written atom is.related is.value) three))))

pub record IsNextAtom (scope : Scope) (before : List Atom) (written : WrittenAtom) (atom : Atom) : Type 0 where
  pub is : IsAtom scope written atom
  pub room : length before < 16

atom_parts : (scope : Scope) → Parts (is_next (codes "&&")) (next_atom scope) (λ (a : WrittenAtom). Quoted (codes "&&") ∷ atom_encoded a) Always (Grows (IsNextAtom scope))
unfolding next_atom
atom_parts scope = record {
  begins = λ a words tokens e. next_quoted (codes "&&") tokens (atom_encoded a ++ words) e;
  leads = λ a words. tt;
  long = λ a. omega arith;
  step = λ atoms a next tokens words goes e last.
      passes _ (after_again (codes "&&") tokens (atom_encoded a ++ words) e) λ rest one.
      gets _ (atom_again scope (nat_lt (length atoms) 16) a goes.0 rest words (lt-ltb _ _ goes.2.room) goes.2.is one) λ end two.
      ended_as (atoms ++ goes.0 ∷ []) next end (sym goes.1) two;
}

atom_steps : (scope : Scope) (before : List Atom) (written : List WrittenAtom) (atoms : List Atom) → EachIs (IsAtom scope) written atoms → length before + length atoms ≤ 16
    → Steps (IsNextAtom scope) before written atoms
atom_steps scope before [] [] are few = tt
atom_steps scope before [] (a ∷ atoms) are few = absurd are
atom_steps scope before (w ∷ written) [] are few = absurd are
atom_steps scope before (w ∷ written) (a ∷ atoms) are few =
    let more = length-append before (a ∷ []) in
    (record { is = are.0; room = omega arith }, atom_steps scope (before ++ a ∷ []) written atoms are.1 (omega arith))

abbrev and_atom : WrittenAtom → List Lexeme
and_atom a = Quoted (codes "&&") ∷ atom_encoded a

conj_again : (scope : Scope) (room : Bool) (written : List WrittenAtom) (conj : List Atom) (tokens : List Token) (words : List Lexeme) → room ≡ true → EachIs (IsAtom scope) written conj → length conj ≤ 16
    → lexemes tokens ≡ conj_encoded written ++ words → heads (codes "&&") words ≡ false → Got (conj_at scope room tokens) conj words
unfolding no_atoms atoms_at
conj_again scope room [] [] tokens words free are few e last =
    on_true (is_next (codes "true") tokens) _ _ (next_at (codes "true") tokens _ e) (
    holds room (Limit (front_at tokens)) _ free (ended [] (drop 1 tokens) (drop_one tokens (Quoted (codes "true")) words e)))
conj_again scope room [] (a ∷ conj) tokens words free are few e last = absurd are
conj_again scope room (w ∷ written) [] tokens words free are few e last = absurd are
conj_again scope room (w ∷ written) (a ∷ conj) tokens words free are few e last =
    on_false (is_next (codes "true") tokens) _ _ (next_at (codes "true") tokens _ e) (
    gets _ (atom_again scope room w a tokens (flat_map and_atom written ++ words) free are.0 (e ∙ append_assoc (atom_encoded w) (flat_map and_atom written) words)) λ rest one.
    each_again (is_next (codes "&&")) (next_atom scope) and_atom Always (Grows (IsNextAtom scope)) (atom_parts scope) written (a ∷ []) (a ∷ conj) rest words
    (grows (IsNextAtom scope) (a ∷ []) written conj (atom_steps scope (a ∷ []) written conj are.1 (omega arith))) one tt (stops_at (codes "&&") words last))

pub record IsNextConj (scope : Scope) (size : ℕ) (before : List (List Atom)) (written : List WrittenAtom) (conj : List Atom) : Type 0 where
  pub is : EachIs (IsAtom scope) written conj
  pub few : length conj ≤ 16
  pub room : size + length before < 64

abbrev pub or_conj : List WrittenAtom → List Lexeme
or_conj c = Quoted (codes "||") ∷ conj_encoded c

abbrev pub NoAnd : List Lexeme → Type 0
NoAnd words = heads (codes "&&") words ≡ false

conj_parts : (scope : Scope) (size : ℕ) → Parts (is_next (codes "||")) (next_conj scope size) or_conj NoAnd (Grows (IsNextConj scope size))
unfolding next_conj
conj_parts scope size = record {
  begins = λ c words tokens e. next_quoted (codes "||") tokens (conj_encoded c ++ words) e;
  leads = λ c words. refl;
  long = λ c. omega arith;
  step = λ conjs c next tokens words goes e last.
      passes _ (after_again (codes "||") tokens (conj_encoded c ++ words) e) λ rest one.
      gets _ (conj_again scope (nat_lt (size + length conjs) 64) c goes.0 rest words (lt-ltb _ _ goes.2.room) goes.2.is goes.2.few one last) λ end two.
      ended_as (conjs ++ goes.0 ∷ []) next end (sym goes.1) two;
}

conj_steps : (scope : Scope) (size : ℕ) (before : List (List Atom)) (written : List (List WrittenAtom)) (conjs : List (List Atom)) → EachIs (EachIs (IsAtom scope)) written conjs
    → AllByRecursion (λ (c : List Atom). length c ≤ 16) conjs → size + length before + length conjs ≤ 64 → Steps (IsNextConj scope size) before written conjs
conj_steps scope size before [] [] are short few = tt
conj_steps scope size before [] (c ∷ conjs) are short few = absurd are
conj_steps scope size before (w ∷ written) [] are short few = absurd are
conj_steps scope size before (w ∷ written) (c ∷ conjs) are short few =
    let more = length-append before (c ∷ []) in
    (record { is = are.0; few = short.0; room = omega arith }, conj_steps scope size (before ++ c ∷ []) written conjs are.1 short.1 (omega arith))

no_and : (others : List (List WrittenAtom)) (words : List Lexeme) → NoAnd words → NoAnd (flat_map or_conj others ++ words)
no_and [] words last = last
no_and (c ∷ others) words last = refl

pub conjs_again : (scope : Scope) (size : ℕ) (first : List WrittenAtom) (others : List (List WrittenAtom)) (conjs : List (List Atom)) (tokens : List Token) (words : List Lexeme)
    → EachIs (EachIs (IsAtom scope)) (first ∷ others) conjs → AllByRecursion (λ (c : List Atom). length c ≤ 16) conjs → size + length conjs ≤ 64
    → lexemes tokens ≡ (conj_encoded first ++ flat_map or_conj others) ++ words → NoAnd words → heads (codes "||") words ≡ false → Got (conjs_at scope size tokens) conjs words
unfolding conjs_at
conjs_again scope size first others [] tokens words are short few e last none = absurd are
conjs_again scope size first others (c ∷ conjs) tokens words are short few e last none =
    gets _ (conj_again scope (nat_lt size 64) first c tokens (flat_map or_conj others ++ words) (lt-ltb _ _ (omega arith)) are.0 short.0
    (e ∙ append_assoc (conj_encoded first) (flat_map or_conj others) words) (no_and others words last)) λ rest one.
    each_again (is_next (codes "||")) (next_conj scope size) or_conj NoAnd (Grows (IsNextConj scope size)) (conj_parts scope size) others (c ∷ []) (c ∷ conjs) rest words
    (grows (IsNextConj scope size) (c ∷ []) others conjs (conj_steps scope size (c ∷ []) others conjs are.1 short.1 (omega arith))) one last (stops_at (codes "||") words none)

-- ---- updates

-- an update of the variable, for which there is room
pub record IsRightOf (maxint : ℤ) (name : List ℕ) (var : ℕ) (truth room : Bool) (written : Right) (update : Update) : Type 0 where
  pub of : target update ≡ var
  pub right : IsRight maxint name truth written update
  pub few : room ≡ false → range_atoms update ≡ 0

pub int_test : (a b : ℤ) → a ≤ℤ b → int_le a b ≡ true
int_test a b h = grind (arith, ints)

set_again : (maxint : ℤ) (name : List ℕ) (var : ℕ) (truth : Bool) (c : Constant) (value : ℤ) (tokens : List Token) (words : List Lexeme) → IsSet maxint truth c value
    → lexemes tokens ≡ constant_encoded c ++ words → Got (set_at maxint var truth tokens) (Set var value) words
unfolding set_at
set_again maxint name var truth c value tokens words is e =
    let low : int_le (pos 0) (value_of c) ≡ true = subst (λ (v : ℤ). int_le (pos 0) v ≡ true) is.value_is (int_test (pos 0) value is.low) in
    let high : int_le (value_of c) maxint ≡ true = subst (λ (v : ℤ). int_le v maxint ≡ true) is.value_is (int_test value maxint is.high) in
    gets _ (constant_again truth c tokens words is.fits e) λ rest left.
    holds (int_le (pos 0) (value_of c) && int_le (value_of c) maxint) (Range (front_at tokens)) _ (rw (low, high) refl) (
    ended_as (Set var (value_of c)) (Set var value) rest (ap (λ (v : ℤ). Set var v) (sym is.value_is)) left)

range_zero : (z : ℤ) (none one : ℕ) → none ≢ one → cond (int_eq z (pos 0)) none one ≡ none → z ≡ pos 0
range_zero z none one apart e = by (int_eq z (pos 0)) refl e where
  by : (b : Bool) → int_eq z (pos 0) ≡ b → cond b none one ≡ none → z ≡ pos 0
  by true is same = (Decides-int_eq z (pos 0)).0 is
  by false is same = absurd (apart (sym same))

signed_zero : (minus : Bool) (n : ℕ) → signed minus n ≡ pos 0 → n ≡ 0
signed_zero true n e = omega (arith, ints)
signed_zero false n e = omega (arith, ints)

zero_range : (var : ℕ) (minus : Bool) (n : ℕ) → range_atoms (Add var (signed minus n)) ≡ 0 → n ≡ 0
zero_range var minus n e = signed_zero minus n (range_zero (signed minus n) 0 1 (λ same. omega arith) e)

sum_room : (var : ℕ) (minus : Bool) (n : ℕ) (room : Bool) → (room ≡ false → range_atoms (Add var (signed minus n)) ≡ 0) → (n == 0 || room) ≡ true
sum_room var minus n true few = or_true (n == 0) where
  or_true : (b : Bool) → (b || true) ≡ true
  or_true true = refl
  or_true false = refl
sum_room var minus n false few =
    let none = zero_range var minus n (few refl) in
    let is : (n == 0) ≡ true = eq-eqb n 0 none in
    rw is refl

sum_again : (maxint : ℤ) (name : List ℕ) (var : ℕ) (truth room minus : Bool) (other : List ℕ) (n : ℕ) (by : ℤ) (tokens : List Token) (words : List Lexeme)
    → IsSum name other truth minus n by → (room ≡ false → range_atoms (Add var by) ≡ 0) → lexemes tokens ≡ Name other ∷ sign_encoded minus ∷ Number n ∷ words
    → Got (sum_at room name var truth tokens) (Add var by) words
unfolding sum_at
sum_again maxint name var truth room minus other n by tokens words is few e =
    gets _ (name_again other tokens (sign_encoded minus ∷ Number n ∷ words) e) λ signs one.
    holds (bytes_eq other name) (WrongName (front_at tokens)) _ (ap (λ (o : List ℕ). bytes_eq o name) is.own ∙ same_bytes name) (
    gets _ (sign_again minus signs (Number n ∷ words) one) λ addend two.
    holds (not truth) (WrongKind (front_at signs)) _ (ap not is.number) (
    gets _ (number_again n addend words two) λ rest three.
    holds (nat_le n 1000000000) (Range (front_at addend)) _ (le-leb _ _ is.high) (
    holds (n == 0 || room) (Limit (front_at addend)) _ (sum_room var minus n room (λ none. ap (λ (z : ℤ). range_atoms (Add var z)) (sym is.by_is) ∙ few none)) (
    ended_as (Add var (signed minus n)) (Add var by) rest (ap (λ (z : ℤ). Add var z) (sym is.by_is)) three))))

constant_is_no_name : (c : Constant) (words : List Lexeme) → is_some (head_name (constant_encoded c ++ words)) ≡ false
constant_is_no_name (Truth true) words = refl
constant_is_no_name (Truth false) words = refl
constant_is_no_name (Natural n) words = refl
constant_is_no_name (Minus n) words = refl

right_again : (maxint : ℤ) (name : List ℕ) (var : ℕ × Bool) (room : Bool) (written : Right) (update : Update) (tokens : List Token) (words : List Lexeme)
    → IsRightOf maxint name var.0 var.1 room written update → lexemes tokens ≡ right_encoded written ++ words → Got (right_at maxint room name var tokens) update words
right_again maxint name var room (Value c) (Set v value) tokens words is e =
    on_false (is_name tokens) _ _ (is_name_here tokens _ e ∙ constant_is_no_name c words) (
    subst (λ (i : ℕ). Got (set_at maxint var.0 var.1 tokens) (Set i value) words) (sym is.of) (set_again maxint name var.0 var.1 c value tokens words is.right e))
right_again maxint name var room (Value c) (Add v by) tokens words is e = absurd is.right
right_again maxint name var room (Sum other minus n) (Set v value) tokens words is e = absurd is.right
right_again maxint name var room (Sum other minus n) (Add v by) tokens words is e =
    on_true (is_name tokens) _ _ (is_name_here tokens _ e) (
    subst (λ (i : ℕ). Got (sum_at room name var.0 var.1 tokens) (Add i by) words) (sym is.of) (sum_again maxint name var.0 var.1 room minus other n by tokens words is.right is.few e))

pub record IsNextUpdate (vars : List Var) (maxint : ℤ) (atoms : ℕ) (before : List Update) (written : WrittenUpdate) (update : Update) : Type 0 where
  pub is : IsUpdate vars maxint written update
  pub new : is_updated before (target update) ≡ false
  pub few : nat_lt (atoms + all_range_atoms before) 16 ≡ false → range_atoms update ≡ 0

update_parts : (vars : List Var) (maxint : ℤ) (atoms : ℕ) → Parts is_name (update_at vars maxint atoms) update_encoded Always (Grows (IsNextUpdate vars maxint atoms))
unfolding update_at
update_parts vars maxint atoms = record {
  begins = λ u words tokens e. is_name_here tokens _ e;
  leads = λ u words. tt;
  long = λ u. omega arith;
  step = λ updates u next tokens words goes e last.
      let update = goes.0 in
      let is = goes.2.is in
      let var : ℕ × Bool = (target update, is.truth) in
      let right = right_encoded u.right in
      gets _ (name_again u.name tokens (Quoted (codes "=") ∷ ((right ++ Quoted (codes ";") ∷ []) ++ words)) e) λ equals one.
      there (variable_from 0 vars u.name) var (WrongName (front_at tokens)) _ is.named (
      holds (not (is_updated updates (target update))) (Twice (front_at tokens)) _ (ap not goes.2.new) (
      passes _ (after_again (codes "=") equals ((right ++ Quoted (codes ";") ∷ []) ++ words) one) λ start two.
      gets _ (right_again maxint u.name var (nat_lt (atoms + all_range_atoms updates) 16) u.right update start (Quoted (codes ";") ∷ words)
      (record { of = refl; right = is.right; few = goes.2.few }) (two ∙ append_assoc right (Quoted (codes ";") ∷ []) words)) λ end three.
      passes _ (after_again (codes ";") end words three) λ rest four.
      ended_as (updates ++ update ∷ []) next rest (sym goes.1) four));
}

not_updated : (before : List Update) (var : ℕ) → AllByRecursion (λ (u : Update). target u ≢ var) before → is_updated before var ≡ false
not_updated [] var apart = refl
not_updated (u ∷ before) var apart = by (target u == var) refl (not_updated before var apart.1) where
  by : (b : Bool) → (target u == var) ≡ b → is_updated before var ≡ false → (b || is_updated before var) ≡ false
  by true e others = absurd (apart.0 (eqb-true (target u) var e))
  by false e others = others

range_atoms_split : (before : List Update) (u : Update) (others : List Update) → all_range_atoms (before ++ u ∷ others) ≡ all_range_atoms before + (range_atoms u + all_range_atoms others)
range_atoms_split [] u others = omega arith
range_atoms_split (w ∷ before) u others = let e = range_atoms_split before u others in omega arith

range_left : (size more : ℕ) → nat_lt size 16 ≡ false → size + more ≤ 16 → more ≡ 0
range_left size more full few = grind (arith, nat_tests)

update_steps : (vars : List Var) (maxint : ℤ) (atoms : ℕ) (before : List Update) (written : List WrittenUpdate) (updates : List Update) → EachIs (IsUpdate vars maxint) written updates
    → AllPairs (λ u w. target u ≢ target w) (before ++ updates) → atoms + all_range_atoms (before ++ updates) ≤ 16 → Steps (IsNextUpdate vars maxint atoms) before written updates
update_steps vars maxint atoms before [] [] are once few = tt
update_steps vars maxint atoms before [] (u ∷ updates) are once few = absurd are
update_steps vars maxint atoms before (w ∷ written) [] are once few = absurd are
update_steps vars maxint atoms before (w ∷ written) (u ∷ updates) are once few =
    let same : (before ++ u ∷ []) ++ updates ≡ before ++ u ∷ updates = append_assoc before (u ∷ []) updates in
    let split = range_atoms_split before u updates in (
      record {
        is = are.0;
        new = not_updated before (target u) (apart_before (λ (a b : Update). target a ≢ target b) before u updates once);
        few = λ full. range_left (atoms + all_range_atoms before) (range_atoms u) full (omega arith);
      },
      update_steps vars maxint atoms (before ++ u ∷ []) written updates are.1
          (subst (λ (us : List Update). AllPairs (λ a b. target a ≢ target b) us) (sym same) once)
          (subst (λ (us : List Update). atoms + all_range_atoms us ≤ 16) (sym same) few),
    )

abbrev pub braces : List WrittenUpdate → List Lexeme
braces updates = Quoted (codes "{") ∷ (flat_map update_encoded updates ++ Quoted (codes "}") ∷ [])

pub block_again : (vars : List Var) (maxint : ℤ) (atoms : ℕ) (written : List WrittenUpdate) (updates : List Update) (tokens : List Token) (words : List Lexeme)
    → EachIs (IsUpdate vars maxint) written updates → AllPairs (λ u w. target u ≢ target w) updates → atoms + all_range_atoms updates ≤ 16
    → lexemes tokens ≡ braces written ++ words → Got (block_at vars maxint atoms tokens) updates words
unfolding block_at
block_again vars maxint atoms written updates tokens words are once few e =
    let parts : lexemes tokens ≡ Quoted (codes "{") ∷ (flat_map update_encoded written ++ Quoted (codes "}") ∷ words) =
    e ∙ ap (λ (w : List Lexeme). Quoted (codes "{") ∷ w) (append_assoc (flat_map update_encoded written) (Quoted (codes "}") ∷ []) words) in
    passes _ (after_again (codes "{") tokens (flat_map update_encoded written ++ Quoted (codes "}") ∷ words) parts) λ start one.
    gets _ (each_again is_name (update_at vars maxint atoms) update_encoded Always (Grows (IsNextUpdate vars maxint atoms)) (update_parts vars maxint atoms) written [] updates start (Quoted (codes "}") ∷ words)
    (grows (IsNextUpdate vars maxint atoms) [] written updates (update_steps vars maxint atoms [] written updates are once few)) one tt (λ left e. is_name_here left _ e)) λ end two.
    passes _ (after_again (codes "}") end words two) λ rest three.
    ended updates rest three
