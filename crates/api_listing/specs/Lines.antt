-- The lines of a listing, each by itself: how a declaration is encoded. (docs/LISTINGS.md)
use Rattle.std.specs.Prelude.{◌≡◌, ℕ, Bool, true, false, ◌&&◌, ◌==◌, not, List, [], ◌∷◌, length, codes, IsTrue}
use Rattle.std.specs.List.{list_all}
use Rattle.mon_base.specs.declared.method.MethodId.{MethodId}
use Rattle.api_listing.specs.declared.types.ListedClass.{ListedClass}
use Rattle.api_listing.specs.declared.declaration.Declaration.{Declaration}
use Rattle.api_listing.specs.declared.declaration.Declaration.TheVariants.{Class, Method, Field}
use Rattle.api_listing.specs.Words.{pieces, is_class_name}
use Rattle.api_listing.specs.BuiltIn.{object}
use Rattle.api_listing.specs.Descriptor.{EncodesDescriptor, EncodesClass}

abbrev pub are_class_names : List (List ℕ) → Bool
are_class_names names = list_all is_class_name names

-- After `implements` stand the interfaces of a class, between commas.
abbrev pub EncodesAbove : List (List ℕ) → List (List ℕ) → Type 0
EncodesAbove words [] = words ≡ []
EncodesAbove words (i ∷ interfaces) = (list : List ℕ) × ((words ≡ codes "implements" ∷ list ∷ []) × (pieces 44 list ≡ i ∷ interfaces))

-- the line of an interface, which is below Object
pub record EncodesInterface (words : List (List ℕ)) (c : ListedClass) : Type 0 where
  pub encoded : words ≡ codes "interface" ∷ c.name ∷ []
  pub below : c.parent ≡ object
  pub alone : c.interfaces ≡ []

-- the line of a class
pub record EncodesBelow (words : List (List ℕ)) (c : ListedClass) : Type 0 where
  pub above : List (List ℕ)
  pub encoded : words ≡ codes "class" ∷ c.name ∷ codes "extends" ∷ c.parent ∷ above
  pub interfaces : EncodesAbove above c.interfaces

abbrev pub EncodesKind : Bool → List (List ℕ) → ListedClass → Type 0
EncodesKind true words c = EncodesInterface words c
EncodesKind false words c = EncodesBelow words c

pub record EncodesClassLine (words : List (List ℕ)) (c : ListedClass) : Type 0 where
  pub encoded : EncodesKind c.is_interface words c
  pub name : IsTrue (is_class_name c.name)
  pub parent : IsTrue (is_class_name c.parent)
  pub names : IsTrue (are_class_names c.interfaces)

-- the word that a method's line begins with
abbrev pub verb_of : Bool → List ℕ
verb_of true = codes "static"
verb_of false = codes "method"

-- the line of a method or field: its name is any word
pub record EncodesMember (words : List (List ℕ)) (verb : List ℕ) (id : MethodId) : Type 0 where
  pub encoded : words ≡ verb ∷ id.class ∷ id.name ∷ id.desc ∷ []
  pub named : IsTrue (is_class_name id.class && not (length id.name == 0))

-- The words of a line encode the declaration.
abbrev pub EncodesLine : List (List ℕ) → Declaration → Type 0
EncodesLine words (Class c) = EncodesClassLine words c
EncodesLine words (Method m types) = EncodesMember words (verb_of m.is_static) m.id × EncodesDescriptor m.id.desc types
EncodesLine words (Field id class) = EncodesMember words (codes "field") id × EncodesClass id.desc class

-- A line that says nothing is empty or begins with `#`.
abbrev pub says_something : List ℕ → Bool
says_something [] = false
says_something (b ∷ bytes) = not (b == 35)
