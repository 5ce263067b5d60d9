-- What is read is encoded so: guards and updates.
use Rattle.std.proofs.Common.{◌≡◌, ⊎_elim, ℕ, ◌+◌, ◌<◌, ◌≤◌, ℤ, pos, neg_ℤ, Bool, true, false, List, [], ◌∷◌, ◌++◌, length, drop, Option, Some, None, refl, sym, ap, subst, ◌∙◌, arith, append_assoc}
use Rattle.std.specs.Prelude.{◌≤ℤ◌, not, codes, bytes_eq, nat_lt, nat_le, int_le, ◌||◌, ◌&&◌, ◌==◌}
use Rattle.std.specs.List.{flat_map}
use Rattle.std.proofs.lemmas.Bool.{leb-true, ltb-true, and_parts, not-true}
use Rattle.std.proofs.lemmas.Int.{ints}
use Rattle.std.proofs.lemmas.List.{append-nil}
use Rattle.std.proofs.lemmas.Slice.Eq.{bytes_eq-Decides}
use Rattle.conspec_tokens.specs.declared.token.Lexeme.{Lexeme}
use Rattle.conspec_tokens.specs.declared.token.Lexeme.TheVariants.{Quoted}
use Rattle.conspec_tokens.specs.declared.token.Token.{Token}
use Rattle.conspec_tree.specs.declared.types.Atom.{Atom}
use Rattle.conspec_tree.specs.declared.types.Guard.{Guard}
use Rattle.conspec_tree.specs.declared.types.Rel.{Rel}
use Rattle.conspec_tree.specs.declared.types.Rel.TheVariants as rels
use Rattle.conspec_tree.specs.declared.types.Update.{Update}
use Rattle.conspec_tree.specs.declared.types.Update.TheVariants.{Set, Add}
use Rattle.conspec_tree.specs.declared.types.Var.{Var}
use Rattle.conspec_parse.specs.declared.fault.PolicyFault.TheVariants.{Name as WrongName, Kind as WrongKind, Range, Twice, Limit}
use Rattle.conspec_tokens.specs.Front.{front_at, is_next, is_name}
use Rattle.conspec_tree.specs.Variables.{variable_from}
use Rattle.conspec_parse.specs.Scope.{Scope, base_named}
use Rattle.conspec_tree.specs.Kinds.{is_truth, is_number}
use Rattle.conspec_parse.specs.Guards.{next_rel, truth_value, negative_at, positive_at, constant_at, atom_at, next_atom, no_atoms, atoms_at, conj_at, next_conj, conjs_at}
use Rattle.conspec_tree.specs.Kinds.{is_equality}
use Rattle.conspec_tree.specs.Updates.{target, is_updated, all_range_atoms}
use Rattle.conspec_parse.specs.Updates.{set_at, next_sign, signed, sum_at, right_at, update_at, block_at}
use Rattle.conspec_tree.specs.Guards.{branches, longest}
use Rattle.conspec_parse.specs.Clauses.{begins_guard, guard_of, guard_at, last_guard, body_at}
use Rattle.conspec_parse.specs.Written.{Constant, WrittenAtom, Right, WrittenUpdate, WrittenGuard, led, rel_encoded, constant_encoded, atom_encoded, conj_encoded, sign_encoded, right_encoded, update_encoded, block_encoded, guard_encoded, else_encoded, body_encoded}
use Rattle.conspec_parse.specs.Written.Constant.{Truth, Natural, Minus}
use Rattle.conspec_parse.specs.Written.Right.{Value, Sum}
use Rattle.conspec_parse.specs.Meaning.{EachIs, value_of, IsConstant, IsAtom, IsRight, IsUpdate, IsGuard, IsOtherwise, AreGuards}
use Rattle.conspec_parse.proofs.Made.{Makes, done, then, tested, either, given, said, together, each_makes}
use Rattle.conspec_parse.proofs.Sound.{all_asked, asks_all, conjs_sound}
use Rattle.conspec_parse.proofs.SoundUpdates.{block_sound}
use Rattle.conspec_parse.proofs.SoundClauses.{longest_low, all_short, body_sound}
use Rattle.conspec_parse.proofs.Found.{Took, joins, nothing, encoded_as, Found, led_more, all_more_words, each_more, next_is, after_found, taken_found, name_found, number_found, which}

-- ---- atoms

rel_is : (tokens : List Token) (rel : Rel) (word : List ℕ) (r : Rel) → rel_encoded r ≡ Quoted word → (is_next word tokens ≡ true) × (r ≡ rel) → Took tokens (rel_encoded rel ∷ []) (drop 1 tokens)
rel_is tokens rel word r encoded h =
    encoded_as (Quoted word ∷ []) (rel_encoded rel ∷ []) (ap (λ (l : Lexeme). l ∷ []) (sym encoded ∙ ap rel_encoded h.1)) (next_is word tokens h.0)

pub rel_found : (tokens : List Token) (rel : Rel) → next_rel tokens ≡ Some rel → Took tokens (rel_encoded rel ∷ []) (drop 1 tokens)
rel_found tokens rel e =
    ⊎_elim (rel_is tokens rel (codes "==") rels.Eq refl) (λ e1.
    ⊎_elim (rel_is tokens rel (codes "!=") rels.Ne refl) (λ e2.
    ⊎_elim (rel_is tokens rel (codes "<") rels.Lt refl) (λ e3.
    ⊎_elim (rel_is tokens rel (codes "<=") rels.Le refl) (λ e4.
    ⊎_elim (rel_is tokens rel (codes ">") rels.Gt refl) (λ e5.
    ⊎_elim (rel_is tokens rel (codes ">=") rels.Ge refl) (λ e6. absurd cc)
    (which (is_next (codes ">=") tokens) _ _ rel e5))
    (which (is_next (codes ">") tokens) _ _ rel e4))
    (which (is_next (codes "<=") tokens) _ _ rel e3))
    (which (is_next (codes "<") tokens) _ _ rel e2))
    (which (is_next (codes "!=") tokens) _ _ rel e1))
    (which (is_next (codes "==") tokens) _ _ rel e)

abbrev IsValue : Bool → Constant → ℤ → Type 0
IsValue truth c value = IsConstant truth c × (value ≡ value_of c)

true_found : (truth : Bool) (tokens : List Token) → is_next (codes "true") tokens ≡ true → Makes (truth_value 1 truth tokens) (Found constant_encoded (IsValue truth) tokens)
unfolding truth_value
true_found truth tokens is =
    tested truth (WrongKind (front_at tokens)) _ λ fits.
    done (pos 1, drop 1 tokens) (record { written = Truth true; took = next_is (codes "true") tokens is; says = (subst (λ (b : Bool). IsConstant b (Truth true)) (sym fits) tt, refl) })

false_found : (truth : Bool) (tokens : List Token) → is_next (codes "false") tokens ≡ true → Makes (truth_value 0 truth tokens) (Found constant_encoded (IsValue truth) tokens)
unfolding truth_value
false_found truth tokens is =
    tested truth (WrongKind (front_at tokens)) _ λ fits.
    done (pos 0, drop 1 tokens) (record { written = Truth false; took = next_is (codes "false") tokens is; says = (subst (λ (b : Bool). IsConstant b (Truth false)) (sym fits) tt, refl) })

negative_found : (truth : Bool) (tokens : List Token) → is_next (codes "-") tokens ≡ true → Makes (negative_at truth tokens) (Found constant_encoded (IsValue truth) tokens)
unfolding negative_at
negative_found truth tokens is =
    tested (not truth) (WrongKind (front_at tokens)) _ λ fits.
    then _ (number_found (drop 1 tokens)) λ number one.
    tested (nat_le number.0 2147483648) (Range (front_at tokens)) _ λ ranged.
    let low : number.0 ≤ 2147483648 = leb-true _ _ ranged in
    done (neg_ℤ (pos number.0), number.1) (record {
      written = Minus number.0;
      took = joins (next_is (codes "-") tokens is) one;
      says = (subst (λ (b : Bool). IsConstant b (Minus number.0)) (sym (not-true truth fits)) low, refl);
    })

positive_found : (truth : Bool) (tokens : List Token) → Makes (positive_at truth tokens) (Found constant_encoded (IsValue truth) tokens)
unfolding positive_at
positive_found truth tokens =
    then _ (number_found tokens) λ number one.
    tested (not truth) (WrongKind (front_at tokens)) _ λ fits.
    tested (nat_lt number.0 2147483648) (Range (front_at tokens)) _ λ ranged.
    let below : number.0 < 2147483648 = ltb-true _ _ ranged in
    let low : number.0 ≤ 2147483647 = omega arith in
    done (pos number.0, number.1) (record {
      written = Natural number.0;
      took = one;
      says = (subst (λ (b : Bool). IsConstant b (Natural number.0)) (sym (not-true truth fits)) low, refl);
    })

constant_found : (truth : Bool) (tokens : List Token) → Makes (constant_at truth tokens) (Found constant_encoded (IsValue truth) tokens)
constant_found truth tokens =
    either (is_next (codes "true") tokens) _ _ (λ holds. true_found truth tokens holds) λ not_true.
    either (is_next (codes "false") tokens) _ _ (λ holds. false_found truth tokens holds) λ not_false.
    either (is_next (codes "-") tokens) _ _ (λ holds. negative_found truth tokens holds) λ not_minus.
    positive_found truth tokens

implied : (a b : Bool) → (not a || b) ≡ true → a ≡ true → b ≡ true
implied true b e h = e
implied false b e h = absurd cc

atom_found : (scope : Scope) (room : Bool) (tokens : List Token) → Makes (atom_at scope room tokens) (Found atom_encoded (IsAtom scope) tokens)
unfolding atom_at
atom_found scope room tokens =
    then _ (name_found tokens) λ name one.
    then _ (given (base_named scope name.0) (WrongName (front_at tokens))) λ base named.
    tested (is_number base.1) (WrongKind (front_at tokens)) _ λ number.
    tested room (Limit (front_at tokens)) _ λ few.
    then _ (taken_found (next_rel name.1) (λ r. rel_encoded r) name.1 (rel_found name.1)) λ rel two.
    tested (not (is_truth base.1) || is_equality rel.0) (WrongKind (front_at name.1)) _ λ fits.
    then _ (constant_found (is_truth base.1) rel.1) λ value three.
    done (record { base = base.0; rel = rel.0; value = value.0 }, value.1) (record {
      written = record { name = name.0; rel = rel.0; constant = three.written };
      took = joins one (joins two three.took);
      says = record {
        kind = base.1;
        named = named;
        asked = number;
        related = refl;
        equal = implied (is_truth base.1) (is_equality rel.0) fits;
        fits = three.says.0;
        value = three.says.1;
      };
    })

next_atom_found : (scope : Scope) (first : WrittenAtom) (start : List Token) (atoms : List Atom) (tokens : List Token)
    → Found (led (codes "&&") atom_encoded) (λ others read. EachIs (IsAtom scope) (first ∷ others) read) start (atoms, tokens)
    → Makes (next_atom scope atoms tokens) (Found (led (codes "&&") atom_encoded) (λ others read. EachIs (IsAtom scope) (first ∷ others) read) start)
unfolding next_atom
next_atom_found scope first start atoms tokens before =
    then _ (after_found (codes "&&") tokens) λ rest one.
    then _ (atom_found scope (nat_lt (length atoms) 16) rest) λ atom two.
    done (atoms ++ atom.0 ∷ [], atom.1) (record {
      written = before.written ++ two.written ∷ [];
      took = encoded_as _ _ (led_more (codes "&&") atom_encoded before.written two.written) (joins before.took (joins one two.took));
      says = each_more (IsAtom scope) (first ∷ before.written) atoms two.written atom.0 before.says two.says;
    })

atoms_found : (scope : Scope) (room : Bool) (tokens : List Token) → Makes (atoms_at scope room tokens) (Found conj_encoded (EachIs (IsAtom scope)) tokens)
unfolding atoms_at
atoms_found scope room tokens =
    then _ (atom_found scope room tokens) λ first one.
    said (each_makes (is_next (codes "&&")) (next_atom scope)
    (λ atoms left. Found (led (codes "&&") atom_encoded) (λ others read. EachIs (IsAtom scope) (one.written ∷ others) read) first.1 (atoms, left))
    (λ atoms left goes before. next_atom_found scope one.written first.1 atoms left before)
    (first.0 ∷ []) first.1 (record { written = []; took = nothing first.1; says = (one.says, tt) })) λ r two.
    record { written = one.written ∷ two.written; took = joins one.took two.took; says = two.says }

none_found : (scope : Scope) (room : Bool) (tokens : List Token) → is_next (codes "true") tokens ≡ true → Makes (no_atoms room tokens) (Found conj_encoded (EachIs (IsAtom scope)) tokens)
unfolding no_atoms
none_found scope room tokens is =
    tested room (Limit (front_at tokens)) _ λ few.
    done ([], drop 1 tokens) (record { written = []; took = next_is (codes "true") tokens is; says = tt })

conj_found : (scope : Scope) (room : Bool) (tokens : List Token) → Makes (conj_at scope room tokens) (Found conj_encoded (EachIs (IsAtom scope)) tokens)
conj_found scope room tokens = either (is_next (codes "true") tokens) _ _ (λ holds. none_found scope room tokens holds) (λ fails. atoms_found scope room tokens)

next_conj_found : (scope : Scope) (size : ℕ) (first : List WrittenAtom) (start : List Token) (conjs : List (List Atom)) (tokens : List Token)
    → Found (led (codes "||") conj_encoded) (λ others cs. EachIs (EachIs (IsAtom scope)) (first ∷ others) cs) start (conjs, tokens)
    → Makes (next_conj scope size conjs tokens) (Found (led (codes "||") conj_encoded) (λ others cs. EachIs (EachIs (IsAtom scope)) (first ∷ others) cs) start)
unfolding next_conj
next_conj_found scope size first start conjs tokens before =
    then _ (after_found (codes "||") tokens) λ rest one.
    then _ (conj_found scope (nat_lt (size + length conjs) 64) rest) λ conj two.
    done (conjs ++ conj.0 ∷ [], conj.1) (record {
      written = before.written ++ two.written ∷ [];
      took = encoded_as _ _ (led_more (codes "||") conj_encoded before.written two.written) (joins before.took (joins one two.took));
      says = each_more (EachIs (IsAtom scope)) (first ∷ before.written) conjs two.written conj.0 before.says two.says;
    })

-- the branches of a guard, of which the first stands apart
pub record WrittenConjs : Type 0 where
  pub first : List WrittenAtom
  pub others : List (List WrittenAtom)

abbrev conjs_encoded : WrittenConjs → List Lexeme
conjs_encoded w = conj_encoded w.first ++ led (codes "||") conj_encoded w.others

abbrev AreConjsOf : Scope → WrittenConjs → List (List Atom) → Type 0
AreConjsOf scope w conjs = EachIs (EachIs (IsAtom scope)) (w.first ∷ w.others) conjs

conjs_found : (scope : Scope) (size : ℕ) (tokens : List Token) → Makes (conjs_at scope size tokens) (Found conjs_encoded (AreConjsOf scope) tokens)
unfolding conjs_at
conjs_found scope size tokens =
    then _ (conj_found scope (nat_lt size 64) tokens) λ first one.
    said (each_makes (is_next (codes "||")) (next_conj scope size)
    (λ conjs left. Found (led (codes "||") conj_encoded) (λ others cs. EachIs (EachIs (IsAtom scope)) (one.written ∷ others) cs) first.1 (conjs, left))
    (λ conjs left goes before. next_conj_found scope size one.written first.1 conjs left before)
    (first.0 ∷ []) first.1 (record { written = []; took = nothing first.1; says = (one.says, tt) })) λ r two.
    record { written = record { first = one.written; others = two.written }; took = joins one.took two.took; says = two.says }

-- ---- updates

pub sign_found : (tokens : List Token) (minus : Bool) → next_sign tokens ≡ Some minus → Took tokens (sign_encoded minus ∷ []) (drop 1 tokens)
sign_found tokens minus e =
    ⊎_elim (λ h. encoded_as (Quoted (codes "+") ∷ []) (sign_encoded minus ∷ []) (ap (λ (b : Bool). sign_encoded b ∷ []) h.1) (next_is (codes "+") tokens h.0)) (λ e1.
    ⊎_elim (λ h. encoded_as (Quoted (codes "-") ∷ []) (sign_encoded minus ∷ []) (ap (λ (b : Bool). sign_encoded b ∷ []) h.1) (next_is (codes "-") tokens h.0)) (λ e2. absurd cc)
    (which (is_next (codes "-") tokens) true _ minus e1))
    (which (is_next (codes "+") tokens) false _ minus e)

pub record IsRightAt (maxint : ℤ) (name : List ℕ) (var : ℕ) (truth : Bool) (written : Right) (update : Update) : Type 0 where
  pub of : target update ≡ var
  pub right : IsRight maxint name truth written update

pub int_low : (a b : ℤ) → int_le a b ≡ true → a ≤ℤ b
int_low a b e = grind (arith, ints)

set_found : (maxint : ℤ) (name : List ℕ) (var : ℕ) (truth : Bool) (tokens : List Token) → Makes (set_at maxint var truth tokens) (Found right_encoded (IsRightAt maxint name var truth) tokens)
unfolding set_at
set_found maxint name var truth tokens =
    then _ (constant_found truth tokens) λ value one.
    tested (int_le (pos 0) value.0 && int_le value.0 maxint) (Range (front_at tokens)) _ λ ranged.
    let r = and_parts (int_le (pos 0) value.0) (int_le value.0 maxint) ranged in
    done (Set var value.0, value.1) (record {
      written = Value one.written;
      took = one.took;
      says = record { of = refl; right = record { fits = one.says.0; value_is = one.says.1; low = int_low _ _ r.0; high = int_low _ _ r.1 } };
    })

sum_found : (maxint : ℤ) (room : Bool) (name : List ℕ) (var : ℕ) (truth : Bool) (tokens : List Token)
    → Makes (sum_at room name var truth tokens) (Found right_encoded (IsRightAt maxint name var truth) tokens)
unfolding sum_at
sum_found maxint room name var truth tokens =
    then _ (name_found tokens) λ same one.
    tested (bytes_eq same.0 name) (WrongName (front_at tokens)) _ λ own.
    then _ (taken_found (next_sign same.1) (λ m. sign_encoded m) same.1 (sign_found same.1)) λ sign two.
    tested (not truth) (WrongKind (front_at same.1)) _ λ fits.
    then _ (number_found sign.1) λ addend three.
    tested (nat_le addend.0 1000000000) (Range (front_at sign.1)) _ λ ranged.
    tested (addend.0 == 0 || room) (Limit (front_at sign.1)) _ λ few.
    done (Add var (signed sign.0 addend.0), addend.1) (record {
      written = Sum same.0 sign.0 addend.0;
      took = joins one (joins two three);
      says = record { of = refl; right = record { own = (bytes_eq-Decides same.0 name).0 own; number = not-true truth fits; by_is = refl; high = leb-true _ _ ranged } };
    })

right_found : (maxint : ℤ) (room : Bool) (name : List ℕ) (var : ℕ × Bool) (tokens : List Token)
    → Makes (right_at maxint room name var tokens) (Found right_encoded (IsRightAt maxint name var.0 var.1) tokens)
right_found maxint room name var tokens =
    either (is_name tokens) _ _ (λ holds. sum_found maxint room name var.0 var.1 tokens) (λ fails. set_found maxint name var.0 var.1 tokens)

abbrev updates_encoded : List WrittenUpdate → List Lexeme
updates_encoded updates = flat_map update_encoded updates

update_found : (vars : List Var) (maxint : ℤ) (atoms : ℕ) (start : List Token) (updates : List Update) (tokens : List Token)
    → Found updates_encoded (EachIs (IsUpdate vars maxint)) start (updates, tokens) → Makes (update_at vars maxint atoms updates tokens) (Found updates_encoded (EachIs (IsUpdate vars maxint)) start)
unfolding update_at
update_found vars maxint atoms start updates tokens before =
    then _ (name_found tokens) λ name one.
    then _ (given (variable_from 0 vars name.0) (WrongName (front_at tokens))) λ var named.
    tested (not (is_updated updates var.0)) (Twice (front_at tokens)) _ λ once.
    then _ (after_found (codes "=") name.1) λ equals two.
    then _ (right_found maxint (nat_lt (atoms + all_range_atoms updates) 16) name.0 var equals) λ update three.
    then _ (after_found (codes ";") update.1) λ ended four.
    let w : WrittenUpdate = record { name = name.0; right = three.written } in
    done (updates ++ update.0 ∷ [], ended) (record {
      written = before.written ++ w ∷ [];
      took = encoded_as _ _ (all_more_words update_encoded before.written w) (joins before.took (joins one (joins two (joins three.took four))));
      says = each_more (IsUpdate vars maxint) before.written updates w update.0 before.says
          (record { truth = var.1; named = named ∙ ap (λ (i : ℕ). Some (i, var.1)) (sym three.says.of); right = three.says.right });
    })

abbrev braced : List WrittenUpdate → List Lexeme
braced updates = Quoted (codes "{") ∷ (updates_encoded updates ++ Quoted (codes "}") ∷ [])

block_found : (vars : List Var) (maxint : ℤ) (atoms : ℕ) (tokens : List Token) → Makes (block_at vars maxint atoms tokens) (Found braced (EachIs (IsUpdate vars maxint)) tokens)
unfolding block_at
block_found vars maxint atoms tokens =
    then _ (after_found (codes "{") tokens) λ opened one.
    then _ (each_makes is_name (update_at vars maxint atoms) (λ updates left. Found updates_encoded (EachIs (IsUpdate vars maxint)) opened (updates, left))
    (λ updates left goes before. update_found vars maxint atoms opened updates left before)
    [] opened (record { written = []; took = nothing opened; says = tt })) λ updates two.
    then _ (after_found (codes "}") updates.1) λ closed three.
    done (updates.0, closed) (record { written = two.written; took = joins one (joins two.took three); says = two.says })

-- ---- bodies

guard_found : (scope : Scope) (maxint : ℤ) (start : List Token) (guards : List Guard) (tokens : List Token)
    → Found (λ ws. flat_map guard_encoded ws) (EachIs (IsGuard scope maxint)) start (guards, tokens)
    → Makes (guard_at scope maxint guards tokens) (Found (λ ws. flat_map guard_encoded ws) (EachIs (IsGuard scope maxint)) start)
unfolding guard_at guard_of
guard_found scope maxint start guards tokens before =
    then _ (together (conjs_found scope (branches guards) tokens) (conjs_sound scope (all_asked scope) (asks_all scope) (branches guards) tokens)) λ conjs one.
    then _ (after_found (codes "->") conjs.1) λ arrow two.
    then _ (together (block_found scope.vars maxint (longest conjs.0) arrow)
    (block_sound scope.vars maxint (longest conjs.0) arrow (longest_low scope (all_asked scope) 0 conjs.0 one.1.conjs (omega arith)))) λ updates three.
    let g : Guard = record { conjs = conjs.0; updates = updates.0 } in
    let cs = one.0.written in
    let w : WrittenGuard = record { first = cs.first; others = cs.others; updates = three.0.written } in
    let encoded : conjs_encoded cs ++ block_encoded w.updates ≡ guard_encoded w = append_assoc (conj_encoded cs.first) (led (codes "||") conj_encoded cs.others) (block_encoded w.updates) in
    done (guards ++ (record { conjs = conjs.0; updates = updates.0 }) ∷ [], updates.1) (record {
      written = before.written ++ w ∷ [];
      took = encoded_as _ _ (all_more_words guard_encoded before.written w) (joins before.took (encoded_as _ _ encoded (joins one.0.took (joins two three.0.took))));
      says = each_more (IsGuard scope maxint) before.written guards w g before.says (record {
        conjs = one.0.says;
        block = record { updates = three.0.says; once = three.1.once; short = all_short 0 (all_range_atoms updates.0) conjs.0 three.1.short };
      });
    })

pub record IsLast (scope : Scope) (maxint : ℤ) (guards : List Guard) (tokens : List Token) (read : List Guard × List Token) : Type 0 where
  pub written : List WrittenUpdate
  pub guard : Guard
  pub took : Took tokens (else_encoded (Some written)) read.1
  pub parts : read.0 ≡ guards ++ guard ∷ []
  pub is : IsOtherwise scope.vars maxint (Some written) (guard ∷ [])

last_guard_found : (scope : Scope) (maxint : ℤ) (guards : List Guard) (tokens : List Token) → is_next (codes "ELSE") tokens ≡ true
    → Makes (last_guard scope maxint guards tokens) (IsLast scope maxint guards tokens)
unfolding last_guard guard_of
last_guard_found scope maxint guards tokens is =
    tested (nat_lt (branches guards) 64) (Limit (front_at tokens)) _ λ few.
    then _ (after_found (codes "->") (drop 1 tokens)) λ arrow two.
    then _ (together (block_found scope.vars maxint 0 arrow) (block_sound scope.vars maxint 0 arrow (omega arith))) λ updates three.
    done (guards ++ (record { conjs = [] ∷ []; updates = updates.0 }) ∷ [], updates.1) (record {
      written = three.0.written;
      guard = record { conjs = [] ∷ []; updates = updates.0 };
      took = joins (next_is (codes "ELSE") tokens is) (joins two three.0.took);
      parts = refl;
      is = (refl, (refl, record { updates = three.0.says; once = three.1.once; short = (three.1.short, tt) }));
    })

pub record WrittenBody : Type 0 where
  pub guards : List WrittenGuard
  pub otherwise : Option (List WrittenUpdate)

abbrev pub encoded_body : WrittenBody → List Lexeme
encoded_body w = body_encoded w.guards w.otherwise

pub record IsBody (scope : Scope) (maxint : ℤ) (written : WrittenBody) (guards : List Guard) : Type 0 where
  pub asking : List Guard
  pub last : List Guard
  pub parts : guards ≡ asking ++ last
  pub guarded : EachIs (IsGuard scope maxint) written.guards asking
  pub other : IsOtherwise scope.vars maxint written.otherwise last

parts_found : (scope : Scope) (maxint : ℤ) (tokens : List Token) → Makes (body_at scope maxint tokens) (Found encoded_body (IsBody scope maxint) tokens)
unfolding body_at
parts_found scope maxint tokens =
    then _ (each_makes begins_guard (guard_at scope maxint) (λ guards left. Found (λ ws. flat_map guard_encoded ws) (EachIs (IsGuard scope maxint)) tokens (guards, left))
    (λ guards left goes before. guard_found scope maxint tokens guards left before)
    [] tokens (record { written = []; took = nothing tokens; says = tt })) λ guards one.
    either (is_next (codes "ELSE") guards.1) _ _
    (λ holds. said (last_guard_found scope maxint guards.0 guards.1 holds) λ r two. record {
      written = record { guards = one.written; otherwise = Some two.written };
      took = joins one.took two.took;
      says = record { asking = guards.0; last = two.guard ∷ []; parts = two.parts; guarded = one.says; other = two.is };
    })
    (λ fails. done (guards.0, guards.1) (record {
      written = record { guards = one.written; otherwise = None };
      took = joins one.took (nothing guards.1);
      says = record { asking = guards.0; last = []; parts = sym (append-nil guards.0); guarded = one.says; other = refl };
    }))

abbrev pub AreGuardsOf : Scope → ℤ → WrittenBody → List Guard → Type 0
AreGuardsOf scope maxint w guards = AreGuards scope maxint w.guards w.otherwise guards

pub body_found : (scope : Scope) (maxint : ℤ) (tokens : List Token) → Makes (body_at scope maxint tokens) (Found encoded_body (AreGuardsOf scope maxint) tokens)
body_found scope maxint tokens = said (together (parts_found scope maxint tokens) (body_sound scope (all_asked scope) maxint tokens (asks_all scope))) λ r is.
    let b = is.0.says in
    record {
      written = is.0.written;
      took = is.0.took;
      says = record { asking = b.asking; last = b.last; parts = b.parts; guarded = b.guarded; other = b.other; few = is.1.few };
    }
