-- Declarations that are put into a map: of each name the first counts.
use Rattle.std.proofs.Common.{◌≡◌, ℕ, Bool, true, false, cond, List, [], ◌∷◌, ◌++◌, Option, Some, None, map, refl, sym, ap, ◌∙◌, subst}
use Rattle.std.specs.Option.{option_or, is_some}
use Rattle.std.specs.Ordering.{is_eq}
use Rattle.std.specs.BTreeMap.{BTreeMap, is_at}
use Rattle.std.specs.Map.{lookup}
use Rattle.mon_base.specs.declared.method.MethodId.{MethodId}
use Rattle.api_listing.specs.BuiltIn.{is_method, method_rows}
use Rattle.api_listing.specs.declared.built_in.TheConstants.{METHODS}
use Rattle.api_listing.specs.Seen.{id_cmp}
use Rattle.bytecode_model.specs.declared.members.Found.{Found}
use Rattle.class_index.specs.Index.{found_in, Notes}
use Rattle.bytecode_model.specs.Members.{Declared, first_of, first_found, in_class}
use Rattle.bytecode_model.proofs.Lists.{or_none, or_or}
use Rattle.bytecode_model.proofs.Names.{id_cmp-is, same_id}
use Rattle.bytecode_model.proofs.Placing.{test_cases, none_or}

pub methods_are : map (λ r. (r.0.now, r.1.now, r.2.now, r.3)) METHODS ≡ method_rows
unfolding method_rows
methods_are = refl

-- what is declared in one list, or else in the other
pub first_of-append : (xs ys : List Declared) (q : MethodId) → first_of (xs ++ ys) q ≡ option_or (first_of xs q) (first_of ys q)
first_of-append [] ys q = refl
first_of-append (x ∷ xs) ys q = by (is_method q.class q.name q.desc x.0) (first_of-append xs ys q) where
  by : (b : Bool) {rest : Option Found} → rest ≡ option_or (first_of xs q) (first_of ys q) → cond b (Some x.1) rest ≡ option_or (cond b (Some x.1) (first_of xs q)) (first_of ys q)
  by true e = refl
  by false e = e

-- a new name
pub adds : (old new : BTreeMap MethodId Found) (id : MethodId) (first : Found) → is_some (found_in old id) ≡ false
    → ((q : MethodId) → found_in new q ≡ cond (is_eq (id_cmp id q)) (Some first) (found_in old q)) → Notes ((id, first) ∷ []) old new
adds old new id first absent puts q =
    puts q ∙ ap (λ b. cond b (Some first) (found_in old q)) (id_cmp-is id q)
    ∙ test_cases (is_method q.class q.name q.desc id) (λ b. cond b (Some first) (found_in old q) ≡ option_or (found_in old q) (cond b (Some first) None))
    (λ e. none_or (found_in old q) (Some first) (subst (λ (i : MethodId). is_some (found_in old i) ≡ false) (same_id id q e) absent))
    (λ e. sym (or_none (found_in old q)))

-- some declarations more
pub goes_on : (all now rest : List Declared) (before after total : Option Found) (q : MethodId) → all ≡ now ++ rest → after ≡ option_or before (first_of now q)
    → option_or before (first_of all q) ≡ total → option_or after (first_of rest q) ≡ total
goes_on all now rest before after total q is more so_far =
    ap (λ o. option_or o (first_of rest q)) more ∙ or_or before (first_of now q) (first_of rest q)
    ∙ ap (option_or before) (sym (first_of-append now rest q)) ∙ ap (λ ds. option_or before (first_of ds q)) (sym is) ∙ so_far

pub is_done : (all : List Declared) (before total : Option Found) (q : MethodId) → all ≡ [] → option_or before (first_of all q) ≡ total → before ≡ total
is_done all before total q is so_far = sym (or_none before) ∙ ap (λ ds. option_or before (first_of ds q)) (sym is) ∙ so_far

-- declarations after others
pub both : (xs ys : List Declared) (o a b : Option Found) (q : MethodId) → a ≡ option_or o (first_of xs q) → b ≡ option_or a (first_of ys q) → b ≡ option_or o (first_of (xs ++ ys) q)
both xs ys o a b q first second =
    second ∙ ap (λ p. option_or p (first_of ys q)) first ∙ or_or o (first_of xs q) (first_of ys q)
    ∙ ap (option_or o) (sym (first_of-append xs ys q))

-- a map that was empty
pub from_empty : (found : BTreeMap MethodId Found) (q : MethodId) (x y : Option Found) → found.entries ≡ [] → y ≡ option_or (found_in found q) x → y ≡ x
from_empty found q x y empty is = is ∙ ap (λ o. option_or o x) (none_in found.entries empty) where
  none_in : (es : List (MethodId × Found)) → es ≡ [] → lookup (is_at (id_cmp q)) es ≡ None
  none_in es e = ap (lookup (is_at (id_cmp q))) e

pub chain : (xs ys zs : List Declared) (o a b d : Option Found) (q : MethodId) → a ≡ option_or o (first_of xs q) → b ≡ option_or a (first_of ys q) → d ≡ option_or b (first_of zs q) → d ≡ option_or o (first_of (xs ++ (ys ++ zs)) q)
chain xs ys zs o a b d q first second third = both xs (ys ++ zs) o a d q first (both ys zs a b d q second third)

-- look-ups that give the same
pub first_found_same : (f g : MethodId → Option Found) (id : MethodId) (names : List (List ℕ)) → ((q : MethodId) → f q ≡ g q) → first_found f id names ≡ first_found g id names
first_found_same f g id [] same = refl
first_found_same f g id (name ∷ names) same =
    ap (λ o. option_or o (first_found f id names)) (same (in_class id name)) ∙ ap (option_or (g (in_class id name))) (first_found_same f g id names same)
