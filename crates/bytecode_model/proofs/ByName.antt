-- A map by names that is asked for their bytes.
use Rattle.std.proofs.Common.{◌≡◌, ℕ, Bool, true, false, cond, List, [], Option, Some, None, sym, ap, subst, ◌∙◌, inl, inr}
use Rattle.std.specs.Prelude.{bytes_eq, is_some, Vec}
use Rattle.std.specs.Global.{Global}
use Rattle.std.specs.Option.{option_or}
use Rattle.std.specs.Ordering.{is_eq, nat_cmp}
use Rattle.std.specs.Cmp.Lexicographic.{slice_cmp, nat_list_cmp_total}
use Rattle.std.specs.Cmp.{eq_by_cmp_equiv}
use Rattle.std.specs.BTreeMap.{BTreeMap, UpdatesBy, is_at}
use Rattle.std.specs.Map.{lookup, KeepsOthers, IsKeyTest, AreApart}
use Rattle.std.proofs.lemmas.Bool.{cases_Bool, false≢true}
use Rattle.std.proofs.lemmas.Map.Text.{is_eq-slice_cmp}
use Rattle.std.proofs.lemmas.Slice.Eq.{bytes_eq-Decides}
use Rattle.bytecode_model.proofs.Lists.{or_none}
use Rattle.bytecode_model.proofs.Placing.{none_or, same_name, test_cases}
use Rattle.bytecode_model.specs.ByName.{noted}

apart : (name q k : List ℕ) → bytes_eq name q ≡ false → is_eq (slice_cmp nat_cmp name k) ≡ true → is_eq (slice_cmp nat_cmp q k) ≡ false
apart name q k other at =
    elim (cases_Bool (bytes_eq q k)) [
      | inl is ↦
          let one : name ≡ k = (bytes_eq-Decides name k).0 (sym (is_eq-slice_cmp name k) ∙ at) in
          let two : q ≡ k = (bytes_eq-Decides q k).0 is in
          absurd (false≢true (sym other ∙ (bytes_eq-Decides name q).1 (one ∙ sym two)))
      | inr differs ↦ is_eq-slice_cmp q k ∙ differs
    ]

others : {K : Type 0} (eq : K → K → Bool) (test : K → Bool) {X : Type 0} (old new : List (K × X)) → KeepsOthers eq test old new → (other : K → Bool) → IsKeyTest eq other → AreApart test other
    → lookup other new ≡ lookup other old
unfolding KeepsOthers
others eq test old new h = h

-- what is put by a name, or taken from there
pub noted_put : {X : Type 0} (old new : BTreeMap (Vec ℕ Global) X) (name : List ℕ) (w : Option X)
    → UpdatesBy (λ (x y : Vec ℕ Global). slice_cmp nat_cmp x.items y.items) (λ (k : Vec ℕ Global). slice_cmp nat_cmp name k.items) old new w
    → (q : List ℕ) → noted new q ≡ cond (bytes_eq name q) w (noted old q)
noted_put old new name w h q =
    test_cases (bytes_eq name q) (λ b. noted new q ≡ cond b w (noted old q))
    (λ e. subst (λ (n : List ℕ). noted new n ≡ w) (same_name name q e) h.1)
    (λ e. others _ _ _ _ h.3 _ (λ x y. (eq_by_cmp_equiv nat_list_cmp_total).congr q x.items y.items) (λ k. apart name q k.items e))

pub empty_noted : {X : Type 0} (names : BTreeMap (Vec ℕ Global) X) (q : List ℕ) → names.entries ≡ [] → noted names q ≡ None
empty_noted {X = X} names q empty = ap (λ (es : List (Vec ℕ Global × X)). lookup (is_at (λ (k : Vec ℕ Global). slice_cmp nat_cmp q k.items)) es) empty

pub none_noted : {X : Type 0} (names : BTreeMap (Vec ℕ Global) X) (q : List ℕ) (o : Option X) → names.entries ≡ [] → option_or (noted names q) o ≡ o
none_noted {X = X} names q o empty = ap (λ (p : Option X). option_or p o) (empty_noted names q empty)

-- what is put by a name that is new
pub noted_added : {X : Type 0} (old new : BTreeMap (Vec ℕ Global) X) (name : List ℕ) (x : X) → is_some (noted old name) ≡ false
    → ((q : List ℕ) → noted new q ≡ cond (bytes_eq name q) (Some x) (noted old q)) → (q : List ℕ) → noted new q ≡ option_or (noted old q) (cond (bytes_eq name q) (Some x) None)
noted_added old new name x absent puts q =
    puts q
    ∙ test_cases (bytes_eq name q) (λ b. cond b (Some x) (noted old q) ≡ option_or (noted old q) (cond b (Some x) None))
    (λ e. none_or (noted old q) (Some x) (subst (λ (n : List ℕ). is_some (noted old n) ≡ false) (same_name name q e) absent))
    (λ e. sym (or_none (noted old q)))
