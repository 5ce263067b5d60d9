-- From a class upwards, one class after the other.
use Rattle.std.proofs.Common.{◌≡◌, ℕ, suc, ◌+◌, ◌-◌, ◌<◌, List, [], ◌∷◌, ◌++◌, Option, Some, None, refl, sym, ap, ◌∙◌, arith}
use Rattle.std.specs.Option.{option_or}
use Rattle.api_listing.specs.declared.types.ListedClass.{ListedClass}
use Rattle.api_listing.specs.declared.types.ListedMethod.{ListedMethod}
use Rattle.api_listing.specs.Nearest.{class_named, declared_in, first_declared, upwards, names_of, interfaces_of}

pub upwards_some : (n i : ℕ) (classes : List ListedClass) (name : List ℕ) (c : ListedClass) → i < n → class_named classes name ≡ Some c → upwards (n - i) classes name ≡ c ∷ upwards (n - (i + 1)) classes c.parent
upwards_some n i classes name c lt some =
    let k : n - i ≡ suc (n - (i + 1)) = omega arith in
    rw (k, some) refl

either : (o p q : Option ℕ) → option_or o (option_or p q) ≡ option_or (option_or o p) q
either None p q = refl
either (Some x) p q = refl

pub first_declared-append : (methods : List ListedMethod) (name desc : List ℕ) (xs ys : List (List ℕ)) → first_declared methods name desc (xs ++ ys) ≡ option_or (first_declared methods name desc xs) (first_declared methods name desc ys)
first_declared-append methods name desc [] ys = refl
first_declared-append methods name desc (x ∷ xs) ys =
    ap (option_or (declared_in methods name desc x)) (first_declared-append methods name desc xs ys)
    ∙ either (declared_in methods name desc x) (first_declared methods name desc xs) (first_declared methods name desc ys)

-- one class further up, where the class declares nothing
pub climbs : (methods : List ListedMethod) (name desc : List ℕ) (n i : ℕ) (classes : List ListedClass) (at : List ℕ) (c : ListedClass) (total : Option ℕ) → i < n → class_named classes at ≡ Some c
    → declared_in methods name desc c.name ≡ None → first_declared methods name desc (names_of (upwards (n - i) classes at)) ≡ total
    → first_declared methods name desc (names_of (upwards (n - (i + 1)) classes c.parent)) ≡ total
climbs methods name desc n i classes at c total lt some none so_far =
    let step : first_declared methods name desc (names_of (upwards (n - i) classes at)) ≡ first_declared methods name desc (names_of (upwards (n - (i + 1)) classes c.parent)) = rw (upwards_some n i classes at c lt some, none) refl in
    sym step ∙ so_far

-- the same for the interfaces of the class
pub climbs_by_interfaces : (methods : List ListedMethod) (name desc : List ℕ) (n i : ℕ) (classes : List ListedClass) (at : List ℕ) (c : ListedClass) (total : Option ℕ) → i < n → class_named classes at ≡ Some c
    → first_declared methods name desc c.interfaces ≡ None → first_declared methods name desc (interfaces_of (upwards (n - i) classes at)) ≡ total
    → first_declared methods name desc (interfaces_of (upwards (n - (i + 1)) classes c.parent)) ≡ total
climbs_by_interfaces methods name desc n i classes at c total lt some none so_far =
    let step : first_declared methods name desc (interfaces_of (upwards (n - i) classes at)) ≡ first_declared methods name desc (interfaces_of (upwards (n - (i + 1)) classes c.parent)) =
    rw (upwards_some n i classes at c lt some, first_declared-append, none) refl in
    sym step ∙ so_far

-- the interfaces of the class declare the method
pub ends_by_interfaces : (methods : List ListedMethod) (name desc : List ℕ) (n i : ℕ) (classes : List ListedClass) (at : List ℕ) (c : ListedClass) (total : Option ℕ) (d : ℕ) → i < n → class_named classes at ≡ Some c
    → first_declared methods name desc c.interfaces ≡ Some d → first_declared methods name desc (interfaces_of (upwards (n - i) classes at)) ≡ total → Some d ≡ total
ends_by_interfaces methods name desc n i classes at c total d lt some found so_far =
    let step : first_declared methods name desc (interfaces_of (upwards (n - i) classes at)) ≡ Some d = rw (upwards_some n i classes at c lt some, first_declared-append, found) refl in
    sym step ∙ so_far
