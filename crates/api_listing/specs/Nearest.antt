-- Where a method is declared, from a class upwards. (docs/LISTINGS.md)
use Rattle.std.specs.Prelude.{◌≡◌, ℕ, zero, suc, List, [], ◌∷◌, ◌++◌, length, map, find, bytes_eq, Option, Some, None, IsTrue, slice_get}
use Rattle.std.specs.List.{flat_map, list_any, position_from}
use Rattle.std.specs.Option.{option_or, option_map_or}
use Rattle.api_listing.specs.declared.types.ListedClass.{ListedClass}
use Rattle.api_listing.specs.declared.types.ListedMethod.{ListedMethod}
use Rattle.api_listing.specs.declared.types.Listing.{Listing}
use Rattle.api_listing.specs.BuiltIn.{is_method}

-- the entry of the class with the name
abbrev pub class_named : List ListedClass → List ℕ → Option ListedClass
class_named classes name = find (λ c. bytes_eq c.name name) classes

-- the index of the method that the very class declares
abbrev pub declared_in : List ListedMethod → List ℕ → List ℕ → List ℕ → Option ℕ
declared_in methods name desc class = position_from (λ m. is_method class name desc m.id) 0 methods

-- that of the first of the classes that declares the method
abbrev pub first_declared : List ListedMethod → List ℕ → List ℕ → List (List ℕ) → Option ℕ
first_declared methods name desc [] = None
first_declared methods name desc (class ∷ classes) =
    option_or (declared_in methods name desc class) (first_declared methods name desc classes)

-- the class and its superclasses, at most n of them
abbrev pub upwards : ℕ → List ListedClass → List ℕ → List ListedClass
upwards zero classes name = []
upwards (suc n) classes name = option_map_or (λ c. c ∷ upwards n classes c.parent) (class_named classes name) []

abbrev pub names_of : List ListedClass → List (List ℕ)
names_of classes = map (λ c. c.name) classes

abbrev pub interfaces_of : List ListedClass → List (List ℕ)
interfaces_of classes = flat_map (λ c. c.interfaces) classes

-- where a method of a class is looked for: in the class, its superclasses from the nearest on, and then their interfaces
abbrev pub looked_in : Listing → List ℕ → List (List ℕ)
looked_in listing class =
    let supers = upwards (length listing.classes) listing.classes class in
    names_of supers ++ interfaces_of supers

-- the index of the method that the class, or else its nearest superclass, or else the first of their interfaces declares
abbrev pub nearest : Listing → List ℕ → List ℕ → List ℕ → Option ℕ
nearest listing class name desc = first_declared listing.methods name desc (looked_in listing class)

-- The method with this index has the name and the descriptor, and is of a class in which it is looked for.
pub record IsMethodAt (listing : Listing) (class name desc : List ℕ) (index : ℕ) : Type 0 where
  pub method : ListedMethod
  pub there : slice_get listing.methods index ≡ Some method
  pub named : method.id.name ≡ name
  pub described : method.id.desc ≡ desc
  pub of_these : IsTrue (list_any (λ c. bytes_eq c method.id.class) (looked_in listing class))

-- None has.
abbrev pub HasNoMethod : Listing → List ℕ → List ℕ → List ℕ → Type 0
HasNoMethod listing class name desc = (index : ℕ) → IsMethodAt listing class name desc index → ⊥
