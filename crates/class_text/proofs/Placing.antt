-- Places of methods in a map: of each class, name and descriptor the first counts.
use Rattle.std.proofs.Common.{◌≡◌, ℕ, false, cond, List, [], Option, Some, None, refl, sym, ap, ◌∙◌, subst}
use Rattle.std.specs.Option.{option_or, is_some}
use Rattle.std.specs.Ordering.{is_eq}
use Rattle.std.specs.BTreeMap.{BTreeMap, is_at}
use Rattle.std.specs.Map.{lookup}
use Rattle.mon_base.specs.declared.method.MethodId.{MethodId}
use Rattle.api_listing.specs.declared.types.ListedMethod.{ListedMethod}
use Rattle.api_listing.specs.BuiltIn.{is_method}
use Rattle.api_listing.specs.Nearest.{declared_in}
use Rattle.api_listing.specs.Seen.{id_cmp}
use Rattle.bytecode_model.proofs.Lists.{or_none}
use Rattle.bytecode_model.proofs.Names.{id_cmp-is, same_id}
use Rattle.bytecode_model.proofs.Placing.{test_cases, none_or}
use Rattle.class_text.specs.Library.{method_in}

-- a new name
pub adds_method : (old new : BTreeMap MethodId ℕ) (id : MethodId) (place : ℕ) → is_some (method_in old id) ≡ false
    → ((q : MethodId) → method_in new q ≡ cond (is_eq (id_cmp id q)) (Some place) (method_in old q)) → (q : MethodId)
    → method_in new q ≡ option_or (method_in old q) (cond (is_method q.class q.name q.desc id) (Some place) None)
adds_method old new id place absent puts q =
    puts q ∙ ap (λ b. cond b (Some place) (method_in old q)) (id_cmp-is id q)
    ∙ test_cases (is_method q.class q.name q.desc id) (λ b. cond b (Some place) (method_in old q) ≡ option_or (method_in old q) (cond b (Some place) None))
    (λ e. none_or (method_in old q) (Some place) (subst (λ (i : MethodId). is_some (method_in old i) ≡ false) (same_id id q e) absent))
    (λ e. sym (or_none (method_in old q)))

-- a map that is empty
pub no_method : (places : BTreeMap MethodId ℕ) (q : MethodId) (o : Option ℕ) → places.entries ≡ [] → option_or (method_in places q) o ≡ o
no_method places q o empty = ap (λ p. option_or p o) (none_in places.entries empty) where
  none_in : (es : List (MethodId × ℕ)) → es ≡ [] → lookup (is_at (id_cmp q)) es ≡ None
  none_in es e = ap (lookup (is_at (id_cmp q))) e

-- a look-up by equal words
pub same_declared : (methods : List ListedMethod) (name desc class name2 desc2 class2 : List ℕ) → name ≡ name2 → desc ≡ desc2 → class ≡ class2 → declared_in methods name desc class ≡ declared_in methods name2 desc2 class2
same_declared methods name desc class name2 desc2 class2 n d c = rw (n, d, c) refl
