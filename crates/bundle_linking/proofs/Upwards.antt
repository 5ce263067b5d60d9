-- The nearest class upwards that declares a method.
use Rattle.std.proofs.Common.{◌≡◌, ℕ, zero, suc, ◌≤◌, List, [], ◌∷◌, ◌++◌, length, Option, Some, None, ap, ◌∙◌, arith}
use Rattle.std.specs.Option.{option_map_or, option_or}
use Rattle.mon_base.specs.declared.method.MethodId.{MethodId}
use Rattle.api_listing.specs.declared.types.ListedClass.{ListedClass}
use Rattle.api_listing.specs.Nearest.{class_named, interfaces_of, names_of, upwards}
use Rattle.bytecode_model.specs.declared.members.Found.{Found}
use Rattle.bytecode_model.specs.Members.{first_found, in_class}
use Rattle.bytecode_model.specs.SearchOrder.{Name, interfaces_from, search_order}

-- A class is the first of those from it upwards.
one_up : (n : ℕ) (classes : List ListedClass) (name : Name) (c : ListedClass) → 1 ≤ n → class_named classes name ≡ Some c
    → (above : List ListedClass) × (upwards n classes name ≡ c ∷ above)
one_up zero classes name c some e = absurd (omega arith)
one_up (suc n) classes name c some e =
    (upwards n classes c.parent, ap (λ (o : Option ListedClass). option_map_or (λ (d : ListedClass). d ∷ upwards n classes d.parent) o []) e)

-- Its superclass is the second.
two_up : (n : ℕ) (classes : List ListedClass) (name : Name) (c d : ListedClass) → 2 ≤ n → class_named classes name ≡ Some c → class_named classes c.parent ≡ Some d
    → (above : List ListedClass) × (upwards n classes name ≡ c ∷ d ∷ above)
two_up zero classes name c d some first second = absurd (omega arith)
two_up (suc n) classes name c d some first second =
    let up = one_up n classes c.parent d (omega arith) second in
    (up.0, ap (λ (o : Option ListedClass). option_map_or (λ (x : ListedClass). x ∷ upwards n classes x.parent) o []) first ∙ ap (λ (cs : List ListedClass). c ∷ cs) up.1)

-- the names that are looked in, of a class with these superclasses
abbrev order_of : List ListedClass → List ListedClass → List Name
order_of classes supers = names_of supers ++ interfaces_from classes (interfaces_of supers)

-- A method that the class itself declares.
pub found_in_first : (look : MethodId → Option Found) (id : MethodId) (classes : List ListedClass) (c : ListedClass) (f : Found) → 1 ≤ length classes → class_named classes id.class ≡ Some c
    → look (in_class id c.name) ≡ Some f → first_found look id (search_order classes id.class) ≡ Some f
found_in_first look id classes c f some named found =
    let up = one_up (length classes) classes id.class c some named in
    ap (λ (supers : List ListedClass). first_found look id (order_of classes supers)) up.1
    ∙ ap (λ (o : Option Found). option_or o (first_found look id (names_of up.0 ++ interfaces_from classes (interfaces_of (c ∷ up.0))))) found

-- One that its superclass declares.
pub found_in_second : (look : MethodId → Option Found) (id : MethodId) (classes : List ListedClass) (c d : ListedClass) (f : Found) → 2 ≤ length classes → class_named classes id.class ≡ Some c
    → class_named classes c.parent ≡ Some d → look (in_class id c.name) ≡ None → look (in_class id d.name) ≡ Some f → first_found look id (search_order classes id.class) ≡ Some f
found_in_second look id classes c d f some first second none found =
    let up = two_up (length classes) classes id.class c d some first second in
    let rest = names_of up.0 ++ interfaces_from classes (interfaces_of (c ∷ d ∷ up.0)) in
    ap (λ (supers : List ListedClass). first_found look id (order_of classes supers)) up.1
    ∙ ap (λ (o : Option Found). option_or o (option_or (look (in_class id d.name)) (first_found look id rest))) none
    ∙ ap (λ (o : Option Found). option_or o (first_found look id rest)) found
