-- What is found from a class upwards.
use Rattle.std.proofs.Common.{◌≡◌, ℕ, suc, Bool, true, false, cond, List, [], ◌∷◌, ◌++◌, Option, Some, None, refl, sym, ap, ◌∙◌}
use Rattle.std.specs.Prelude.{bytes_eq, find}
use Rattle.std.specs.Option.{option_map_or, option_or}
use Rattle.mon_base.specs.declared.method.MethodId.{MethodId}
use Rattle.api_listing.specs.declared.types.ListedClass.{ListedClass}
use Rattle.api_listing.specs.Nearest.{class_named, upwards, names_of}
use Rattle.bytecode_model.specs.declared.members.Found.{Found}
use Rattle.bytecode_model.specs.Members.{first_found, in_class}
use Rattle.bytecode_model.specs.SearchOrder.{superclasses, search_order}
use Rattle.bytecode_model.proofs.Lists.{some_is}
use Rattle.bytecode_model.proofs.Placing.{same_name}

-- what is found by a name has it
pub named_is : (classes : List ListedClass) (at : List ℕ) (c : ListedClass) → class_named classes at ≡ Some c → c.name ≡ at
named_is [] at c e = absurd cc
named_is (x ∷ xs) at c e = by (bytes_eq x.name at) refl e (named_is xs at c) where
  by : (b : Bool) → bytes_eq x.name at ≡ b → cond b (Some x) (find (λ (y : ListedClass). bytes_eq y.name at) xs) ≡ Some c → (class_named xs at ≡ Some c → c.name ≡ at) → c.name ≡ at
  by true t e later =
      let same : x ≡ c = some_is x c e in
      ap (λ (y : ListedClass). y.name) (sym same) ∙ same_name x.name at t
  by false t e later = later e

module _ (look : MethodId → Option Found) (id : MethodId) where
  found_append : (xs ys : List (List ℕ)) (f : Found) → first_found look id xs ≡ Some f → first_found look id (xs ++ ys) ≡ Some f
  found_append [] ys f e = absurd cc
  found_append (x ∷ xs) ys f e = by (look (in_class id x)) (found_append xs ys f) e where
    by : (o : Option Found) → (first_found look id xs ≡ Some f → first_found look id (xs ++ ys) ≡ Some f) → option_or o (first_found look id xs) ≡ Some f → option_or o (first_found look id (xs ++ ys)) ≡ Some f
    by (Some g) later e = e
    by None later e = later e

  module _ (classes : List ListedClass) where
    -- a class, and then those above it
    pub up_front : (n : ℕ) (at : List ℕ) (c : ListedClass) → class_named classes at ≡ Some c
        → first_found look id (names_of (upwards (suc n) classes at)) ≡ option_or (look (in_class id at)) (first_found look id (names_of (upwards n classes c.parent)))
    up_front n at c some =
        ap (λ (o : Option ListedClass). first_found look id (names_of (option_map_or (λ (x : ListedClass). x ∷ upwards n classes x.parent) o []))) some
        ∙ ap (λ (name : List ℕ). option_or (look (in_class id name)) (first_found look id (names_of (upwards n classes c.parent)))) (named_is classes at c some)

    -- what is found in the superclasses is what is found at all
    pub found_first : (f : Found) → first_found look id (names_of (superclasses classes id.class)) ≡ Some f → Some f ≡ first_found look id (search_order classes id.class)
    found_first f e = sym (found_append (names_of (superclasses classes id.class)) _ f e)
