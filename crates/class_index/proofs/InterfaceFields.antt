-- A set of names and descriptors of fields that interfaces declare.
use Rattle.std.proofs.Common.{◌≡◌, ℕ, Bool, true, false, ◌||◌, List, [], refl, sym, ap, subst, ◌∙◌}
use Rattle.std.specs.Prelude.{bytes_eq}
use Rattle.std.specs.Ordering.{is_eq}
use Rattle.std.specs.BTreeSet.{BTreeSet}
use Rattle.std.proofs.lemmas.Bool.{false≢true}
use Rattle.std.proofs.lemmas.Slice.Eq.{bytes_eq-Decides}
use Rattle.mon_base.specs.declared.method.MethodId.{MethodId}
use Rattle.api_listing.specs.BuiltIn.{is_method}
use Rattle.api_listing.specs.Seen.{has_id, has_name, id_cmp}
use Rattle.bytecode_model.specs.Members.{in_class}
use Rattle.bytecode_model.proofs.Names.{id_cmp-is, same_id}

-- a name and a descriptor are those of themselves
own_key : (id : MethodId) → is_method [] id.name id.desc (record { class = []; name = id.name; desc = id.desc }) ≡ true
own_key id =
    let name : bytes_eq id.name id.name ≡ true = (bytes_eq-Decides id.name id.name).1 refl in
    let desc : bytes_eq id.desc id.desc ≡ true = (bytes_eq-Decides id.desc id.desc).1 refl in
    rw (name, desc) refl

-- After a key that was put in, what was there is there, and the key is.
pub is_kept : (fields : BTreeSet MethodId) (id q key : MethodId) (has : Bool) → key ≡ record { class = []; name = id.name; desc = id.desc }
    → has ≡ (is_eq (id_cmp key (in_class q [])) || has_id fields (in_class q []))
    → (has_id fields (in_class q []) || is_eq (id_cmp q id)) ≡ true → has ≡ true
is_kept fields id q key has is now was = by (has_id fields (in_class q [])) (is_eq (id_cmp q id)) refl was now where
  same : q ≡ id → is_eq (id_cmp key (in_class q [])) ≡ true
  same e =
      id_cmp-is key (in_class q []) ∙ ap (is_method [] q.name q.desc) is
      ∙ subst (λ (i : MethodId). is_method [] i.name i.desc (record { class = []; name = id.name; desc = id.desc }) ≡ true) (sym e) (own_key id)

  or_true : (b : Bool) → (b || true) ≡ true
  or_true true = refl
  or_true false = refl

  by : (a b : Bool) → is_eq (id_cmp q id) ≡ b → (a || b) ≡ true → has ≡ (is_eq (id_cmp key (in_class q [])) || a) → has ≡ true
  by true b t e f = f ∙ or_true (is_eq (id_cmp key (in_class q [])))
  by false true t e f = f ∙ ap (λ (c : Bool). c || false) (same (same_id q id (sym (id_cmp-is q id) ∙ t)))
  by false false t e f = absurd (false≢true e)

-- What is of no interface needs no key.
pub not_of_interface : (fields : BTreeSet MethodId) (interfaces : BTreeSet (List ℕ)) (id q : MethodId) → has_name interfaces id.class ≡ false
    → has_name interfaces q.class ≡ true → (has_id fields (in_class q []) || is_eq (id_cmp q id)) ≡ true → has_id fields (in_class q []) ≡ true
not_of_interface fields interfaces id q apart of was = by (has_id fields (in_class q [])) (is_eq (id_cmp q id)) refl was where
  by : (a b : Bool) → is_eq (id_cmp q id) ≡ b → (a || b) ≡ true → a ≡ true
  by true b t e = refl
  by false true t e =
      absurd (false≢true (sym apart ∙ subst (λ (i : MethodId). has_name interfaces i.class ≡ true) (same_id q id (sym (id_cmp-is q id) ∙ t)) of))
  by false false t e = e
