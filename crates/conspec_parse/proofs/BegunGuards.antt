-- Before a fault of syntax stands the beginning of a written policy: guards, updates and bodies.
use Rattle.std.proofs.Common.{◌≡◌, ℕ, ◌+◌, ℤ, pos, Bool, true, false, List, [], ◌∷◌, ◌++◌, length, drop, Some, None, refl, sym, ◌∙◌, ap, subst, append_assoc}
use Rattle.std.specs.Prelude.{not, codes, bytes_eq, nat_le, nat_lt, int_le, neg_ℤ, ◌||◌, ◌&&◌, ◌==◌}
use Rattle.std.specs.List.{flat_map}
use Rattle.conspec_tokens.specs.declared.token.Lexeme.{Lexeme}
use Rattle.conspec_tokens.specs.declared.token.Lexeme.TheVariants.{Quoted, Name, Number}
use Rattle.conspec_tokens.specs.declared.token.Token.{Token}
use Rattle.conspec_tree.specs.declared.types.Atom.{Atom}
use Rattle.conspec_tree.specs.declared.types.Guard.{Guard}
use Rattle.conspec_tree.specs.declared.types.Rel.TheVariants as rels
use Rattle.conspec_tree.specs.declared.types.Update.{Update}
use Rattle.conspec_tree.specs.declared.types.Update.TheVariants.{Set, Add}
use Rattle.conspec_tree.specs.declared.types.Var.{Var}
use Rattle.conspec_parse.specs.declared.fault.PolicyFault.TheVariants as faults
use Rattle.conspec_tokens.specs.Front.{front_at, is_next, is_name}
use Rattle.conspec_tree.specs.Variables.{variable_from}
use Rattle.conspec_parse.specs.Scope.{Scope, base_named}
use Rattle.conspec_tree.specs.Kinds.{is_truth, is_number}
use Rattle.conspec_parse.specs.Guards.{next_rel, truth_value, negative_at, positive_at, constant_at, atom_at, next_atom, no_atoms, atoms_at, conj_at, next_conj, conjs_at}
use Rattle.conspec_tree.specs.Kinds.{is_equality}
use Rattle.conspec_tree.specs.Updates.{is_updated, all_range_atoms}
use Rattle.conspec_parse.specs.Updates.{set_at, next_sign, signed, sum_at, right_at, update_at, block_at}
use Rattle.conspec_tree.specs.Guards.{branches, longest}
use Rattle.conspec_parse.specs.Clauses.{begins_guard, guard_of, guard_at, last_guard, body_at}
use Rattle.conspec_parse.specs.Written.{Constant, WrittenAtom, Right, WrittenUpdate, WrittenGuard, rel_encoded, constant_encoded, atom_encoded, conj_encoded, sign_encoded, right_encoded, update_encoded, block_encoded, guard_encoded}
use Rattle.conspec_parse.specs.Written.Constant.{Truth, Natural, Minus}
use Rattle.conspec_parse.specs.Written.Right.{Value, Sum}
use Rattle.conspec_parse.proofs.Alike.{next_goes_on}
use Rattle.conspec_parse.proofs.AlikeGuards.{rel_goes_on, sign_goes_on}
use Rattle.conspec_parse.proofs.Found.{next_is}
use Rattle.conspec_parse.proofs.FoundGuards.{WrittenBody, encoded_body, rel_found, sign_found}
use Rattle.conspec_parse.proofs.Begun.{Source, At, Leads, Reached, done, then, tested, given, either, said, each_leads, meaning, moved, after, taking, naming, numbering, regroup, unnest, last_out, grown, none_yet}

-- ---- constants

module _ {s : Source} (Next : List Lexeme → Type 0) (tail : List Lexeme) where
  truth_leads : {t : List Token} (value : ℕ) (b truth : Bool) (text : List ℕ) → constant_encoded (Truth b) ≡ Quoted text ∷ [] → At s t Next → is_next text t ≡ true
      → Leads s (truth_value value truth t) (λ r. Reached s Next constant_encoded r.1)
  unfolding truth_value
  truth_leads {t = t} value b truth text encoded at is =
      tested truth (faults.Kind (front_at t)) _ refl (
      done (pos value, drop 1 t) (record {
        written = Truth b;
        at = subst (λ (w : List Lexeme). At s (drop 1 t) (λ more. Next (w ++ more))) (sym encoded) (moved (Quoted text ∷ []) at (next_goes_on text t is) (next_is text t is));
      }))

  negative_leads : {t : List Token} (truth : Bool) → At s t Next → ((c : Constant) → Next (constant_encoded c ++ tail)) → is_next (codes "-") t ≡ true
      → Leads s (negative_at truth t) (λ r. Reached s Next constant_encoded r.1)
  unfolding negative_at
  negative_leads {t = t} truth at goes is =
      tested (not truth) (faults.Kind (front_at t)) _ refl (
      then _ (numbering (Number 0 ∷ tail) (moved (Quoted (codes "-") ∷ []) at (next_goes_on (codes "-") t is) (next_is (codes "-") t is)) (goes (Minus 0))) λ number more.
      tested (nat_le number.0 2147483648) (faults.Range (front_at t)) _ refl (
      done (neg_ℤ (pos number.0), number.1) (record { written = Minus number.0; at = more })))

  positive_leads : {t : List Token} (truth : Bool) → At s t Next → ((c : Constant) → Next (constant_encoded c ++ tail))
      → Leads s (positive_at truth t) (λ r. Reached s Next constant_encoded r.1)
  unfolding positive_at
  positive_leads {t = t} truth at goes =
      then _ (numbering (Number 0 ∷ tail) at (goes (Natural 0))) λ number more.
      tested (not truth) (faults.Kind (front_at t)) _ refl (
      tested (nat_lt number.0 2147483648) (faults.Range (front_at t)) _ refl (
      done (pos number.0, number.1) (record { written = Natural number.0; at = more })))

  constant_leads : {t : List Token} (truth : Bool) → At s t Next → ((c : Constant) → Next (constant_encoded c ++ tail))
      → Leads s (constant_at truth t) (λ r. Reached s Next constant_encoded r.1)
  constant_leads {t = t} truth at goes =
      either (is_next (codes "true") t) _ _ (λ is. truth_leads 1 true truth (codes "true") refl at is) λ no.
      either (is_next (codes "false") t) _ _ (λ is. truth_leads 0 false truth (codes "false") refl at is) λ no.
      either (is_next (codes "-") t) _ _ (λ is. negative_leads truth at goes is) λ no.
      positive_leads truth at goes

-- ---- atoms

abbrev and_atom : WrittenAtom → List Lexeme
and_atom a = Quoted (codes "&&") ∷ atom_encoded a

abbrev or_conj : List WrittenAtom → List Lexeme
or_conj atoms = Quoted (codes "||") ∷ conj_encoded atoms

atom_leads : {s : Source} (Next : List Lexeme → Type 0) (tail : List Lexeme) {t : List Token} (scope : Scope) (room : Bool) → At s t Next
    → ((a : WrittenAtom) → Next (atom_encoded a ++ tail)) → Leads s (atom_at scope room t) (λ r. Reached s Next atom_encoded r.1)
unfolding atom_at
atom_leads Next tail {t = t} scope room at goes =
    let rest : List Lexeme = rel_encoded rels.Eq ∷ Number 0 ∷ tail in
    then _ (naming (Name [] ∷ rest) at (goes (record { name = []; rel = rels.Eq; constant = Natural 0 }))) λ name named.
    then _ (given (base_named scope name.0) (faults.Name (front_at t)) refl) λ base is.
    tested (is_number base.1) (faults.Kind (front_at t)) _ refl (
    tested room (faults.Limit (front_at t)) _ refl (
    then _ (taking (next_rel name.1) rel_encoded rest named (goes (record { name = name.0; rel = rels.Eq; constant = Natural 0 })) (rel_goes_on name.1) (rel_found name.1)) λ rel related.
    tested (not (is_truth base.1) || is_equality rel.0) (faults.Kind (front_at name.1)) _ refl (
    then _ (constant_leads (λ w. Next (Name name.0 ∷ rel_encoded rel.0 ∷ w)) tail (is_truth base.1) related (λ c. goes (record { name = name.0; rel = rel.0; constant = c }))) λ value constant.
    done (record { base = base.0; rel = rel.0; value = value.0 }, value.1) (record {
      written = record { name = name.0; rel = rel.0; constant = constant.written };
      at = constant.at;
    }))))

module _ {s : Source} (Next : List Lexeme → Type 0) (tail : List Lexeme) (scope : Scope) where
  next_atom_leads : (first : WrittenAtom) (atoms : List Atom) (left : List Token) → ((others : List WrittenAtom) → Next (atom_encoded first ++ (flat_map and_atom others ++ tail)))
      → Reached s (λ w. Next (atom_encoded first ++ w)) (flat_map and_atom) left
      → Leads s (next_atom scope atoms left) (λ r. Reached s (λ w. Next (atom_encoded first ++ w)) (flat_map and_atom) r.1)
  unfolding next_atom
  next_atom_leads first atoms left goes are =
      let First : List Lexeme → Type 0 = λ w. Next (atom_encoded first ++ w) in
      let other : (a : WrittenAtom) → First (flat_map and_atom are.written ++ (and_atom a ++ tail)) = λ a. last_out First and_atom are.written a tail (goes (are.written ++ a ∷ [])) in
      then _ (after (codes "&&") (and_atom (record { name = []; rel = rels.Eq; constant = Natural 0 }) ++ tail) are.at (other (record { name = []; rel = rels.Eq; constant = Natural 0 }))) λ both more.
      then _ (atom_leads (λ w. First (flat_map and_atom are.written ++ (Quoted (codes "&&") ∷ w))) tail scope (nat_lt (length atoms) 16) more other) λ atom is.
      done (atoms ++ atom.0 ∷ [], atom.1) (grown First and_atom are.written is.written is.at)

  atoms_leads : {t : List Token} (room : Bool) → At s t Next → ((atoms : List WrittenAtom) → Next (conj_encoded atoms ++ tail))
      → Leads s (atoms_at scope room t) (λ r. Reached s Next conj_encoded r.1)
  unfolding atoms_at
  atoms_leads room at goes =
      then _ (atom_leads Next tail scope room at (λ a. unnest Next (atom_encoded a) tail (goes (a ∷ [])))) λ first is.
      let First : List Lexeme → Type 0 = λ w. Next (atom_encoded is.written ++ w) in
      said (each_leads (is_next (codes "&&")) (next_atom scope) (λ atoms left. Reached s First (flat_map and_atom) left)
      (λ atoms left more are. next_atom_leads is.written atoms left
      (λ others. regroup Next (atom_encoded is.written) (flat_map and_atom others) tail (goes (is.written ∷ others))) are)
      (first.0 ∷ []) first.1 (none_yet First and_atom is.at)) λ r are. record {
        written = is.written ∷ are.written;
        at = meaning are.at (λ words next. regroup Next (atom_encoded is.written) (flat_map and_atom are.written) words next);
      }

  none_leads : {t : List Token} (room : Bool) → At s t Next → is_next (codes "true") t ≡ true → Leads s (no_atoms room t) (λ r. Reached s Next conj_encoded r.1)
  unfolding no_atoms
  none_leads {t = t} room at is =
      tested room (faults.Limit (front_at t)) _ refl (
      done ([], drop 1 t) (record { written = []; at = moved (Quoted (codes "true") ∷ []) at (next_goes_on (codes "true") t is) (next_is (codes "true") t is) }))

  conj_leads : {t : List Token} (room : Bool) → At s t Next → ((atoms : List WrittenAtom) → Next (conj_encoded atoms ++ tail))
      → Leads s (conj_at scope room t) (λ r. Reached s Next conj_encoded r.1)
  conj_leads {t = t} room at goes = either (is_next (codes "true") t) _ _ (λ is. none_leads room at is) (λ no. atoms_leads room at goes)

abbrev Conjs : Type 0
Conjs = List WrittenAtom × List (List WrittenAtom)

abbrev conjs_encoded : Conjs → List Lexeme
conjs_encoded w = conj_encoded w.0 ++ flat_map or_conj w.1

module _ {s : Source} (Next : List Lexeme → Type 0) (tail : List Lexeme) (scope : Scope) where
  next_conj_leads : (before : ℕ) (first : List WrittenAtom) (conjs : List (List Atom)) (left : List Token)
      → ((others : List (List WrittenAtom)) → Next (conj_encoded first ++ (flat_map or_conj others ++ tail)))
      → Reached s (λ w. Next (conj_encoded first ++ w)) (flat_map or_conj) left
      → Leads s (next_conj scope before conjs left) (λ r. Reached s (λ w. Next (conj_encoded first ++ w)) (flat_map or_conj) r.1)
  unfolding next_conj
  next_conj_leads before first conjs left goes are =
      let First : List Lexeme → Type 0 = λ w. Next (conj_encoded first ++ w) in
      let other : (c : List WrittenAtom) → First (flat_map or_conj are.written ++ (or_conj c ++ tail)) = λ c. last_out First or_conj are.written c tail (goes (are.written ++ c ∷ [])) in
      then _ (after (codes "||") (or_conj [] ++ tail) are.at (other [])) λ either more.
      then _ (conj_leads (λ w. First (flat_map or_conj are.written ++ (Quoted (codes "||") ∷ w))) tail scope (nat_lt (before + length conjs) 64) more other) λ conj is.
      done (conjs ++ conj.0 ∷ [], conj.1) (grown First or_conj are.written is.written is.at)

  conjs_leads : {t : List Token} (before : ℕ) → At s t Next → ((w : Conjs) → Next (conjs_encoded w ++ tail))
      → Leads s (conjs_at scope before t) (λ r. Reached s Next conjs_encoded r.1)
  unfolding conjs_at
  conjs_leads before at goes =
      then _ (conj_leads Next tail scope (nat_lt before 64) at (λ c. unnest Next (conj_encoded c) tail (goes (c, [])))) λ first is.
      let First : List Lexeme → Type 0 = λ w. Next (conj_encoded is.written ++ w) in
      said (each_leads (is_next (codes "||")) (next_conj scope before) (λ conjs left. Reached s First (flat_map or_conj) left)
      (λ conjs left more are. next_conj_leads before is.written conjs left
      (λ others. regroup Next (conj_encoded is.written) (flat_map or_conj others) tail (goes (is.written, others))) are)
      (first.0 ∷ []) first.1 (none_yet First or_conj is.at)) λ r are. record {
        written = (is.written, are.written);
        at = meaning are.at (λ words next. regroup Next (conj_encoded is.written) (flat_map or_conj are.written) words next);
      }

-- ---- updates

module _ {s : Source} (Next : List Lexeme → Type 0) (tail : List Lexeme) where
  set_leads : {t : List Token} (maxint : ℤ) (var : ℕ) (truth : Bool) → At s t Next → ((r : Right) → Next (right_encoded r ++ tail))
      → Leads s (set_at maxint var truth t) (λ r. Reached s Next right_encoded r.1)
  unfolding set_at
  set_leads {t = t} maxint var truth at goes =
      then _ (constant_leads Next tail truth at (λ c. goes (Value c))) λ value is.
      tested (int_le (pos 0) value.0 && int_le value.0 maxint) (faults.Range (front_at t)) _ refl (
      done (Set var value.0, value.1) (record { written = Value is.written; at = is.at }))

  sum_leads : {t : List Token} (room : Bool) (name : List ℕ) (var : ℕ) (truth : Bool) → At s t Next → ((r : Right) → Next (right_encoded r ++ tail))
      → Leads s (sum_at room name var truth t) (λ r. Reached s Next right_encoded r.1)
  unfolding sum_at
  sum_leads {t = t} room name var truth at goes =
      then _ (naming (Name [] ∷ sign_encoded false ∷ Number 0 ∷ tail) at (goes (Sum [] false 0))) λ same named.
      tested (bytes_eq same.0 name) (faults.Name (front_at t)) _ refl (
      then _ (taking (next_sign same.1) sign_encoded (sign_encoded false ∷ Number 0 ∷ tail) named (goes (Sum same.0 false 0)) (sign_goes_on same.1) (sign_found same.1)) λ sign after_sign.
      tested (not truth) (faults.Kind (front_at same.1)) _ refl (
      then _ (numbering (Number 0 ∷ tail) after_sign (goes (Sum same.0 sign.0 0))) λ addend last.
      tested (nat_le addend.0 1000000000) (faults.Range (front_at sign.1)) _ refl (
      tested (addend.0 == 0 || room) (faults.Limit (front_at sign.1)) _ refl (
      done (Add var (signed sign.0 addend.0), addend.1) (record { written = Sum same.0 sign.0 addend.0; at = last })))))

  right_leads : {t : List Token} (maxint : ℤ) (room : Bool) (name : List ℕ) (var : ℕ × Bool) → At s t Next → ((r : Right) → Next (right_encoded r ++ tail))
      → Leads s (right_at maxint room name var t) (λ r. Reached s Next right_encoded r.1)
  right_leads {t = t} maxint room name var at goes =
      either (is_name t) _ _ (λ is. sum_leads room name var.0 var.1 at goes) (λ no. set_leads maxint var.0 var.1 at goes)

update_leads : {s : Source} (Next : List Lexeme → Type 0) (tail : List Lexeme) {t : List Token} (vars : List Var) (maxint : ℤ) (atoms : ℕ) (updates : List Update) → At s t Next
    → ((u : WrittenUpdate) → Next (update_encoded u ++ tail)) → Leads s (update_at vars maxint atoms updates t) (λ r. Reached s Next update_encoded r.1)
unfolding update_at
update_leads Next tail {t = t} vars maxint atoms updates at goes =
    let all : (name : List ℕ) (r : Right) → Next (Name name ∷ Quoted (codes "=") ∷ (right_encoded r ++ (Quoted (codes ";") ∷ tail))) =
    λ name r. regroup (λ w. Next (Name name ∷ Quoted (codes "=") ∷ w)) (right_encoded r) (Quoted (codes ";") ∷ []) tail (goes (record { name = name; right = r })) in
    then _ (naming (Name [] ∷ Quoted (codes "=") ∷ Number 0 ∷ Quoted (codes ";") ∷ tail) at (all [] (Value (Natural 0)))) λ name named.
    then _ (given (variable_from 0 vars name.0) (faults.Name (front_at t)) refl) λ var is.
    tested (not (is_updated updates var.0)) (faults.Twice (front_at t)) _ refl (
    then _ (after (codes "=") (Quoted (codes "=") ∷ Number 0 ∷ Quoted (codes ";") ∷ tail) named (all name.0 (Value (Natural 0)))) λ equals more.
    then _ (right_leads (λ w. Next (Name name.0 ∷ Quoted (codes "=") ∷ w)) (Quoted (codes ";") ∷ tail) maxint (nat_lt (atoms + all_range_atoms updates) 16) name.0 var more (all name.0)) λ update right.
    then _ (after (codes ";") (Quoted (codes ";") ∷ tail) right.at (all name.0 right.written)) λ last at_end.
    done (updates ++ update.0 ∷ [], last) (record {
      written = record { name = name.0; right = right.written };
      at = meaning at_end (λ words next. regroup (λ w. Next (Name name.0 ∷ Quoted (codes "=") ∷ w)) (right_encoded right.written) (Quoted (codes ";") ∷ []) words next);
    }))

abbrev braced : List WrittenUpdate → List Lexeme
braced updates = Quoted (codes "{") ∷ (flat_map update_encoded updates ++ Quoted (codes "}") ∷ [])

block_leads : {s : Source} (Next : List Lexeme → Type 0) (tail : List Lexeme) {t : List Token} (vars : List Var) (maxint : ℤ) (atoms : ℕ) → At s t Next
    → ((us : List WrittenUpdate) → Next (braced us ++ tail)) → Leads s (block_at vars maxint atoms t) (λ r. Reached s Next braced r.1)
unfolding block_at
block_leads {s = s} Next tail vars maxint atoms at goes =
    let Opened : List Lexeme → Type 0 = λ w. Next (Quoted (codes "{") ∷ w) in
    let all : (us : List WrittenUpdate) → Opened (flat_map update_encoded us ++ (Quoted (codes "}") ∷ tail)) =
    λ us. regroup Opened (flat_map update_encoded us) (Quoted (codes "}") ∷ []) tail (goes us) in
    then _ (after (codes "{") (Quoted (codes "{") ∷ Quoted (codes "}") ∷ tail) at (all [])) λ opened more.
    then _ (each_leads is_name (update_at vars maxint atoms) (λ updates left. Reached s Opened (flat_map update_encoded) left)
    (λ updates left goes_on are. said (update_leads (λ w. Opened (flat_map update_encoded are.written ++ w)) (Quoted (codes "}") ∷ tail) vars maxint atoms updates are.at
    (λ u. last_out Opened update_encoded are.written u (Quoted (codes "}") ∷ tail) (all (are.written ++ u ∷ []))))
    (λ r is. grown Opened update_encoded are.written is.written is.at))
    [] opened (none_yet Opened update_encoded more)) λ updates are.
    then _ (after (codes "}") (Quoted (codes "}") ∷ tail) are.at (all are.written)) λ closed last.
    done (updates.0, closed) (record {
      written = are.written;
      at = meaning last (λ words next. regroup Opened (flat_map update_encoded are.written) (Quoted (codes "}") ∷ []) words next);
    })

-- ---- bodies

regroup_three : (Next : List Lexeme → Type 0) (a b c d : List Lexeme) → Next ((a ++ (b ++ c)) ++ d) → Next ((a ++ b) ++ (c ++ d))
regroup_three Next a b c d next =
    subst Next (append_assoc a (b ++ c) d ∙ ap (λ (w : List Lexeme). a ++ w) (append_assoc b c d) ∙ sym (append_assoc a b (c ++ d))) next

guard_leads : {s : Source} (Next : List Lexeme → Type 0) (tail : List Lexeme) {t : List Token} (scope : Scope) (maxint : ℤ) (guards : List Guard) → At s t Next
    → ((g : WrittenGuard) → Next (guard_encoded g ++ tail)) → Leads s (guard_at scope maxint guards t) (λ r. Reached s Next guard_encoded r.1)
unfolding guard_at guard_of
guard_leads Next tail scope maxint guards at goes =
    let all : (w : Conjs) (us : List WrittenUpdate) → Next (conjs_encoded w ++ (block_encoded us ++ tail)) =
    λ w us. regroup_three Next (conj_encoded w.0) (flat_map or_conj w.1) (block_encoded us) tail (goes (record { first = w.0; others = w.1; updates = us })) in
    then _ (conjs_leads Next (block_encoded [] ++ tail) scope (branches guards) at (λ w. all w [])) λ conjs cs.
    then _ (after (codes "->") (block_encoded [] ++ tail) cs.at (all cs.written [])) λ arrow more.
    then _ (block_leads (λ w. Next (conjs_encoded cs.written ++ (Quoted (codes "->") ∷ w))) tail scope.vars maxint (longest conjs.0) more (all cs.written)) λ updates us.
    done (guards ++ (record { conjs = conjs.0; updates = updates.0 }) ∷ [], updates.1) (record {
      written = record { first = cs.written.0; others = cs.written.1; updates = us.written };
      at = meaning us.at (λ words next. regroup_three Next (conj_encoded cs.written.0) (flat_map or_conj cs.written.1) (block_encoded us.written) words next);
    })

abbrev else_of : List WrittenUpdate → List Lexeme
else_of us = Quoted (codes "ELSE") ∷ block_encoded us

last_guard_leads : {s : Source} (Next : List Lexeme → Type 0) (tail : List Lexeme) {t : List Token} (scope : Scope) (maxint : ℤ) (guards : List Guard) → At s t Next
    → ((us : List WrittenUpdate) → Next (else_of us ++ tail)) → is_next (codes "ELSE") t ≡ true → Leads s (last_guard scope maxint guards t) (λ r. Reached s Next else_of r.1)
unfolding last_guard guard_of
last_guard_leads Next tail {t = t} scope maxint guards at goes is =
    tested (nat_lt (branches guards) 64) (faults.Limit (front_at t)) _ refl (
    then _ (after (codes "->") (block_encoded [] ++ tail) (moved (Quoted (codes "ELSE") ∷ []) at (next_goes_on (codes "ELSE") t is) (next_is (codes "ELSE") t is)) (goes [])) λ arrow more.
    then _ (block_leads (λ w. Next (Quoted (codes "ELSE") ∷ Quoted (codes "->") ∷ w)) tail scope.vars maxint 0 more goes) λ updates us.
    done (guards ++ (record { conjs = [] ∷ []; updates = updates.0 }) ∷ [], updates.1) (record { written = us.written; at = us.at }))

pub body_leads : {s : Source} (Next : List Lexeme → Type 0) (tail : List Lexeme) {t : List Token} (scope : Scope) (maxint : ℤ) → At s t Next
    → ((w : WrittenBody) → Next (encoded_body w ++ tail)) → Leads s (body_at scope maxint t) (λ r. Reached s Next encoded_body r.1)
unfolding body_at
body_leads {s = s} Next tail scope maxint at goes =
    let all : (ws : List WrittenGuard) → Next (flat_map guard_encoded ws ++ tail) =
    λ ws. unnest Next (flat_map guard_encoded ws) tail (goes (record { guards = ws; otherwise = None })) in
    then _ (each_leads begins_guard (guard_at scope maxint) (λ guards left. Reached s Next (flat_map guard_encoded) left)
    (λ guards left more are. said (guard_leads (λ w. Next (flat_map guard_encoded are.written ++ w)) tail scope maxint guards are.at
    (λ g. last_out Next guard_encoded are.written g tail (all (are.written ++ g ∷ []))))
    (λ r is. grown Next guard_encoded are.written is.written is.at))
    [] _ (none_yet Next guard_encoded at)) λ guards are.
    either (is_next (codes "ELSE") guards.1) _ _
    (λ is. said (last_guard_leads (λ w. Next (flat_map guard_encoded are.written ++ w)) tail scope maxint guards.0 are.at
    (λ us. regroup Next (flat_map guard_encoded are.written) (else_of us) tail (goes (record { guards = are.written; otherwise = Some us }))) is)
    (λ r us. record {
      written = record { guards = are.written; otherwise = Some us.written };
      at = meaning us.at (λ words next. regroup Next (flat_map guard_encoded are.written) (else_of us.written) words next);
    }))
    (λ no. done (guards.0, guards.1) (record {
      written = record { guards = are.written; otherwise = None };
      at = meaning are.at (λ words next. unnest Next (flat_map guard_encoded are.written) words next);
    }))
