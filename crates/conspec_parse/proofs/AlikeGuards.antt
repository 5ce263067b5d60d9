-- What is read of two lists of tokens that agree at first: the head, variables, guards and updates.
use Rattle.std.proofs.Common.{◌≡◌, ℕ, ◌+◌, ◌≤◌, ℤ, pos, Bool, true, false, List, [], ◌∷◌, ◌++◌, length, drop, Some, refl, arith}
use Rattle.std.specs.Prelude.{not, codes, bytes_eq, nat_le, nat_lt, int_le, neg_ℤ, ◌||◌, ◌&&◌, ◌==◌}
use Rattle.mon_base.specs.Reading.{◌>>=◌, need}
use Rattle.conspec_tokens.specs.declared.token.Lexeme.{Lexeme}
use Rattle.conspec_tokens.specs.declared.token.Lexeme.TheVariants.{Quoted, Name as Named, Number, Wrong, End}
use Rattle.conspec_tokens.specs.declared.token.Token.{Token}
use Rattle.conspec_tree.specs.declared.types.Atom.{Atom}
use Rattle.conspec_tree.specs.declared.types.Guard.{Guard}
use Rattle.conspec_tree.specs.declared.types.Rel.{Rel}
use Rattle.conspec_tree.specs.declared.types.Update.{Update}
use Rattle.conspec_tree.specs.declared.types.Update.TheVariants.{Set, Add}
use Rattle.conspec_tree.specs.declared.types.Var.{Var}
use Rattle.conspec_parse.specs.declared.fault.PolicyFault.TheVariants.{Syntax, Name, Kind, Range, Twice, Limit}
use Rattle.conspec_parse.specs.Forms.{Parsed, number_at}
use Rattle.conspec_tokens.specs.Front.{front_at, is_next, is_name}
use Rattle.conspec_parse.specs.Head.{header_at, truth_at, count_at, first_at}
use Rattle.conspec_tree.specs.Variables.{variable_from}
use Rattle.conspec_parse.specs.Scope.{Scope, base_named}
use Rattle.conspec_tree.specs.Kinds.{is_truth, is_number}
use Rattle.conspec_parse.specs.Guards.{next_rel, truth_value, negative_at, positive_at, constant_at, atom_at, next_atom, no_atoms, atoms_at, conj_at, next_conj, conjs_at}
use Rattle.conspec_tree.specs.Kinds.{is_equality}
use Rattle.conspec_tree.specs.Updates.{is_updated, all_range_atoms}
use Rattle.conspec_parse.specs.Updates.{set_at, next_sign, signed, sum_at, right_at, update_at, block_at}
use Rattle.conspec_tree.specs.Guards.{branches, longest}
use Rattle.conspec_parse.specs.Clauses.{begins_guard, guard_of, guard_at, last_guard, body_at}
use Rattle.conspec_parse.proofs.Alike.{Pair, Here, Alike, is_word, goes_on, next, next_goes_on, reached, ended, told, onward, loosened, lessened, joined, then, then_some, tested, given, either, either_then, after, taking, naming, numbered, numbering, each_alike, syntax, unknown, of_kind, of_range, twice, limit}

-- ---- constants

truth_alike : {Y : Type 0} {p : Pair} {c least : ℕ} {t u : List Token} (value : ℕ) (truth : Bool) (f g : ℤ × List Token → Parsed Y) → Here p c t u → goes_on t ≡ true
    → ((value : ℤ) (d : ℕ) (x y : List Token) → c + 1 ≤ d → Here p d x y → Alike p false (c + 1) least (f (value, x)) (g (value, y)))
    → Alike p false c least (truth_value value truth t >>= f) (truth_value value truth u >>= g)
unfolding truth_value
truth_alike {c = c} value true f g here goes rest = onward (omega arith) tt (rest (pos value) (c + 1) _ _ (omega arith) (next here goes))
truth_alike value false f g here goes rest = told Kind of_kind here (omega arith) tt

negative_alike : {Y : Type 0} {p : Pair} {c least : ℕ} {t u : List Token} (truth : Bool) (f g : ℤ × List Token → Parsed Y) → Here p c t u → goes_on t ≡ true
    → ((value : ℤ) (d : ℕ) (x y : List Token) → c + 1 ≤ d → Here p d x y → Alike p false (c + 1) least (f (value, x)) (g (value, y)))
    → Alike p false c least (negative_at truth t >>= f) (negative_at truth u >>= g)
unfolding negative_at
negative_alike true f g here goes rest = told Kind of_kind here (omega arith) tt
negative_alike {c = c} {t = t} {u = u} false f g here goes rest =
    onward (omega arith) tt (
    joined (number_at (drop 1 t)) (number_at (drop 1 u)) _ _ f g (
    numbering _ _ (next here goes) λ n more.
    joined (need (nat_le n 2147483648) (Range (front_at t))) (need (nat_le n 2147483648) (Range (front_at u))) _ _ f g (
    tested (nat_le n 2147483648) _ _ _ _ (told Range of_range here (omega arith) tt) λ ranged.
    rest (neg_ℤ (pos n)) (c + 1 + 1) _ _ (omega arith) more)))

positive_alike : {Y : Type 0} {p : Pair} {c least : ℕ} {t u : List Token} (truth : Bool) (f g : ℤ × List Token → Parsed Y) → Here p c t u
    → ((value : ℤ) (d : ℕ) (x y : List Token) → c + 1 ≤ d → Here p d x y → Alike p false (c + 1) least (f (value, x)) (g (value, y)))
    → Alike p false c least (positive_at truth t >>= f) (positive_at truth u >>= g)
unfolding positive_at
positive_alike {c = c} {t = t} {u = u} truth f g here rest =
    joined (number_at t) (number_at u) _ _ f g (
    numbered _ _ here λ n more.
    joined (need (not truth) (Kind (front_at t))) (need (not truth) (Kind (front_at u))) _ _ f g (
    tested (not truth) _ _ _ _ (told Kind of_kind here (omega arith) tt) λ fits.
    joined (need (nat_lt n 2147483648) (Range (front_at t))) (need (nat_lt n 2147483648) (Range (front_at u))) _ _ f g (
    tested (nat_lt n 2147483648) _ _ _ _ (told Range of_range here (omega arith) tt) λ ranged.
    rest (pos n) (c + 1) _ _ (omega arith) more)))

-- a constant, and then the others, which may yet judge it at its first token
constant_alike : {Y : Type 0} {p : Pair} {c least : ℕ} {t u : List Token} (truth : Bool) (f g : ℤ × List Token → Parsed Y) → Here p c t u
    → ((value : ℤ) (d : ℕ) (x y : List Token) → c + 1 ≤ d → Here p d x y → Alike p false (c + 1) least (f (value, x)) (g (value, y)))
    → Alike p false c least (constant_at truth t >>= f) (constant_at truth u >>= g)
constant_alike {t = t} truth f g here rest =
    either_then (is_next (codes "true")) _ _ _ _ f g (λ x t u. refl) here (λ is. truth_alike 1 truth f g here (next_goes_on (codes "true") t is) rest) λ no.
    either_then (is_next (codes "false")) _ _ _ _ f g (λ x t u. refl) here (λ is. truth_alike 0 truth f g here (next_goes_on (codes "false") t is) rest) λ no.
    either_then (is_next (codes "-")) _ _ _ _ f g (λ x t u. refl) here (λ is. negative_alike truth f g here (next_goes_on (codes "-") t is) rest) λ no.
    positive_alike truth f g here rest

-- ---- atoms

rel_word : (x : Token) (t : List Token) (rel : Rel) → next_rel (x ∷ t) ≡ Some rel → is_word x.lexeme ≡ true
rel_word x t rel e = by x.lexeme e where
  by : (l : Lexeme) → next_rel (record { at = x.at; lexeme = l } ∷ t) ≡ Some rel → is_word l ≡ true
  by (Quoted word) e = refl
  by (Named word) e = refl
  by (Number n) e = refl
  by Wrong e = absurd cc
  by End e = absurd cc

pub rel_goes_on : (t : List Token) (rel : Rel) → next_rel t ≡ Some rel → goes_on t ≡ true
rel_goes_on [] rel e = absurd cc
rel_goes_on (x ∷ t) rel e = rel_word x t rel e

atom_alike : {p : Pair} {c : ℕ} {t u : List Token} (scope : Scope) (room : Bool) → Here p c t u → Alike p false c (c + 1) (atom_at scope room t) (atom_at scope room u)
unfolding atom_at
atom_alike {c = c} {t = t} scope room here =
    naming _ _ here λ name more.
    given (base_named scope name) _ _ _ _ (told Name unknown here (omega arith) tt) λ base is.
    tested (is_number base.1) _ _ _ _ (told Kind of_kind here (omega arith) tt) λ number.
    tested room _ _ _ _ (told Limit limit here (omega arith) tt) λ few.
    onward (omega arith) tt (
    taking next_rel _ _ (λ x t u. refl) (rel_goes_on (drop 1 t)) more λ rel e after_it.
    tested (not (is_truth base.1) || is_equality rel) _ _ _ _ (told Kind of_kind more (omega arith) tt) λ fits.
    onward (omega arith) tt (
    constant_alike (is_truth base.1) _ _ after_it λ value d x y enough last.
    reached (record { base = base.0; rel = rel; value = value }) last (omega arith) (omega arith) tt))

next_atom_alike : {p : Pair} {c : ℕ} {t u : List Token} (scope : Scope) (atoms : List Atom) → Here p c t u → Alike p false c (c + 1) (next_atom scope atoms t) (next_atom scope atoms u)
unfolding next_atom
next_atom_alike scope atoms here =
    after (codes "&&") _ _ tt here λ both.
    then _ _ (atom_alike scope (nat_lt (length atoms) 16) both) λ atom d x y enough more.
    ended (atoms ++ atom ∷ []) more

none_alike : {p : Pair} {c : ℕ} {t u : List Token} (room : Bool) → Here p c t u → goes_on t ≡ true → Alike p false c (c + 1) (no_atoms room t) (no_atoms room u)
unfolding no_atoms
none_alike room here goes =
    tested room _ _ _ _ (told Limit limit here (omega arith) tt) λ few.
    reached [] (next here goes) (omega arith) (omega arith) tt

atoms_alike : {p : Pair} {c : ℕ} {t u : List Token} (scope : Scope) (room : Bool) → Here p c t u → Alike p false c (c + 1) (atoms_at scope room t) (atoms_at scope room u)
unfolding atoms_at
atoms_alike scope room here =
    then_some _ _ (atom_alike scope room here) λ first d x y enough more.
    each_alike (is_next (codes "&&")) (next_atom scope) (λ x t u. refl) (λ atoms c t u here goes. next_atom_alike scope atoms here) (first ∷ []) d x y more

conj_alike : {p : Pair} {c : ℕ} {t u : List Token} (scope : Scope) (room : Bool) → Here p c t u → Alike p false c (c + 1) (conj_at scope room t) (conj_at scope room u)
conj_alike {t = t} scope room here =
    either (is_next (codes "true")) _ _ _ _ (λ x t u. refl) here
    (λ is. none_alike room here (next_goes_on (codes "true") t is)) (λ no. atoms_alike scope room here)

next_conj_alike : {p : Pair} {c : ℕ} {t u : List Token} (scope : Scope) (before : ℕ) (conjs : List (List Atom)) → Here p c t u
    → Alike p false c (c + 1) (next_conj scope before conjs t) (next_conj scope before conjs u)
unfolding next_conj
next_conj_alike scope before conjs here =
    after (codes "||") _ _ tt here λ other.
    then _ _ (conj_alike scope (nat_lt (before + length conjs) 64) other) λ conj d x y enough more.
    ended (conjs ++ conj ∷ []) more

conjs_alike : {p : Pair} {c : ℕ} {t u : List Token} (scope : Scope) (before : ℕ) → Here p c t u → Alike p false c (c + 1) (conjs_at scope before t) (conjs_at scope before u)
unfolding conjs_at
conjs_alike scope before here =
    then_some _ _ (conj_alike scope (nat_lt before 64) here) λ first d x y enough more.
    each_alike (is_next (codes "||")) (next_conj scope before) (λ x t u. refl) (λ conjs c t u here goes. next_conj_alike scope before conjs here) (first ∷ []) d x y more

-- ---- updates

set_alike : {p : Pair} {c : ℕ} {t u : List Token} (maxint : ℤ) (var : ℕ) (truth : Bool) → Here p c t u → Alike p false c (c + 1) (set_at maxint var truth t) (set_at maxint var truth u)
unfolding set_at
set_alike maxint var truth here =
    constant_alike truth _ _ here λ value d x y enough more.
    tested (int_le (pos 0) value && int_le value maxint) _ _ _ _ (told Range of_range here (omega arith) tt) λ ranged.
    reached (Set var value) more (omega arith) (omega arith) tt

sign_word : (x : Token) (t : List Token) (sign : Bool) → next_sign (x ∷ t) ≡ Some sign → is_word x.lexeme ≡ true
sign_word x t sign e = by x.lexeme e where
  by : (l : Lexeme) → next_sign (record { at = x.at; lexeme = l } ∷ t) ≡ Some sign → is_word l ≡ true
  by (Quoted word) e = refl
  by (Named word) e = refl
  by (Number n) e = refl
  by Wrong e = absurd cc
  by End e = absurd cc

pub sign_goes_on : (t : List Token) (sign : Bool) → next_sign t ≡ Some sign → goes_on t ≡ true
sign_goes_on [] sign e = absurd cc
sign_goes_on (x ∷ t) sign e = sign_word x t sign e

sum_alike : {p : Pair} {c : ℕ} {t u : List Token} (room : Bool) (name : List ℕ) (var : ℕ) (truth : Bool) → Here p c t u
    → Alike p false c (c + 1) (sum_at room name var truth t) (sum_at room name var truth u)
unfolding sum_at
sum_alike {c = c} {t = t} room name var truth here =
    naming _ _ here λ same more.
    tested (bytes_eq same name) _ _ _ _ (told Name unknown here (omega arith) tt) λ own.
    onward (omega arith) tt (
    taking next_sign _ _ (λ x t u. refl) (sign_goes_on (drop 1 t)) more λ sign e addend.
    tested (not truth) _ _ _ _ (told Kind of_kind more (omega arith) tt) λ fits.
    onward (omega arith) tt (
    numbered _ _ addend λ n last.
    tested (nat_le n 1000000000) _ _ _ _ (told Range of_range addend (omega arith) tt) λ ranged.
    tested (n == 0 || room) _ _ _ _ (told Limit limit addend (omega arith) tt) λ few.
    reached (Add var (signed sign n)) last (omega arith) (omega arith) tt))

right_alike : {p : Pair} {c : ℕ} {t u : List Token} (maxint : ℤ) (room : Bool) (name : List ℕ) (var : ℕ × Bool) → Here p c t u
    → Alike p false c (c + 1) (right_at maxint room name var t) (right_at maxint room name var u)
right_alike maxint room name var here =
    either is_name _ _ _ _ (λ x t u. refl) here (λ is. sum_alike room name var.0 var.1 here) (λ no. set_alike maxint var.0 var.1 here)

update_alike : {p : Pair} {c : ℕ} {t u : List Token} (vars : List Var) (maxint : ℤ) (atoms : ℕ) (updates : List Update) → Here p c t u
    → Alike p false c (c + 1) (update_at vars maxint atoms updates t) (update_at vars maxint atoms updates u)
unfolding update_at
update_alike vars maxint atoms updates here =
    naming _ _ here λ name more.
    given (variable_from 0 vars name) _ _ _ _ (told Name unknown here (omega arith) tt) λ var is.
    tested (not (is_updated updates var.0)) _ _ _ _ (told Twice twice here (omega arith) tt) λ once.
    onward (omega arith) tt (
    after (codes "=") _ _ tt more λ equals.
    lessened (omega arith) (then _ _ (right_alike maxint (nat_lt (atoms + all_range_atoms updates) 16) name var equals) λ update d x y enough right.
    loosened (after (codes ";") _ _ tt right λ last.
    ended (updates ++ update ∷ []) last)))

block_alike : {p : Pair} {c : ℕ} {t u : List Token} (vars : List Var) (maxint : ℤ) (atoms : ℕ) → Here p c t u
    → Alike p false c (c + 1) (block_at vars maxint atoms t) (block_at vars maxint atoms u)
unfolding block_at
block_alike vars maxint atoms here =
    after (codes "{") _ _ tt here λ opened.
    then _ _ (each_alike is_name (update_at vars maxint atoms) (λ x t u. refl) (λ updates c t u here goes. update_alike vars maxint atoms updates here) [] _ _ _ opened) λ updates d x y enough more.
    loosened (after (codes "}") _ _ tt more λ closed.
    ended updates closed)

-- ---- bodies

guard_alike : {p : Pair} {c : ℕ} {t u : List Token} (scope : Scope) (maxint : ℤ) (guards : List Guard) → Here p c t u
    → Alike p false c (c + 1) (guard_at scope maxint guards t) (guard_at scope maxint guards u)
unfolding guard_at guard_of
guard_alike scope maxint guards here =
    then_some _ _ (conjs_alike scope (branches guards) here) λ conjs d x y enough more.
    loosened (after (codes "->") _ _ tt more λ arrow.
    then _ _ (block_alike scope.vars maxint (longest conjs) arrow) λ updates e v w other last.
    ended (guards ++ (record { conjs = conjs; updates = updates }) ∷ []) last)

last_guard_alike : {p : Pair} {c : ℕ} {t u : List Token} (scope : Scope) (maxint : ℤ) (guards : List Guard) → Here p c t u → goes_on t ≡ true
    → Alike p false c c (last_guard scope maxint guards t) (last_guard scope maxint guards u)
unfolding last_guard guard_of
last_guard_alike scope maxint guards here goes =
    tested (nat_lt (branches guards) 64) _ _ _ _ (told Limit limit here (omega arith) tt) λ few.
    loosened (onward (omega arith) tt (after (codes "->") _ _ tt (next here goes) λ arrow.
    then _ _ (block_alike scope.vars maxint 0 arrow) λ updates d x y enough last.
    ended (guards ++ (record { conjs = [] ∷ []; updates = updates }) ∷ []) last))

pub body_alike : {p : Pair} {c : ℕ} {t u : List Token} (scope : Scope) (maxint : ℤ) → Here p c t u → Alike p false c c (body_at scope maxint t) (body_at scope maxint u)
unfolding body_at
body_alike scope maxint here =
    then _ _ (each_alike begins_guard (guard_at scope maxint) (λ x t u. refl) (λ guards c t u here goes. guard_alike scope maxint guards here) [] _ _ _ here) λ guards d x y enough more.
    either (is_next (codes "ELSE")) _ _ _ _ (λ x t u. refl) more
    (λ is. last_guard_alike scope maxint guards more (next_goes_on (codes "ELSE") x is)) (λ no. ended guards more)

-- ---- the head and the variables

pub header_alike : {p : Pair} {c : ℕ} {t u : List Token} → Here p c t u → Alike p false c c (header_at t) (header_at u)
unfolding header_at
header_alike here =
    loosened (after (codes "MAXINT") _ _ tt here λ number.
    numbered _ _ number λ maxint scope.
    tested (nat_le 1 maxint && nat_le maxint 1000000000) _ _ _ _ (told Range of_range number (omega arith) tt) λ ranged.
    after (codes "SCOPE") _ _ tt scope λ session.
    after (codes "Session") _ _ tt session λ security.
    after (codes "SECURITY") _ _ tt security λ state.
    after (codes "STATE") _ _ tt state λ last.
    ended (pos maxint) last)

first_truth_alike : {p : Pair} {c : ℕ} {t u : List Token} → Here p c t u → Alike p false c (c + 1) (truth_at t) (truth_at u)
unfolding truth_at
first_truth_alike {t = t} here =
    either (is_next (codes "true")) _ _ _ _ (λ x t u. refl) here
    (λ is. reached (pos 1) (next here (next_goes_on (codes "true") t is)) (omega arith) (omega arith) tt) λ no.
    either (is_next (codes "false")) _ _ _ _ (λ x t u. refl) here
    (λ is. reached (pos 0) (next here (next_goes_on (codes "false") t is)) (omega arith) (omega arith) tt) λ neither.
    told Syntax syntax here (omega arith) tt

count_alike : {p : Pair} {c : ℕ} {t u : List Token} (maxint : ℤ) → Here p c t u → Alike p false c (c + 1) (count_at maxint t) (count_at maxint u)
unfolding count_at
count_alike maxint here =
    numbered _ _ here λ n more.
    tested (int_le (pos n) maxint) _ _ _ _ (told Range of_range here (omega arith) tt) λ ranged.
    ended (pos n) more

pub first_alike : {p : Pair} {c : ℕ} {t u : List Token} (maxint : ℤ) (is_bool : Bool) → Here p c t u → Alike p false c (c + 1) (first_at maxint is_bool t) (first_at maxint is_bool u)
first_alike maxint true here = first_truth_alike here
first_alike maxint false here = count_alike maxint here
