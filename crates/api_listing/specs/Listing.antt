-- What a listing is, and which listing a text encodes. (docs/LISTINGS.md)
use Rattle.std.specs.Prelude.{◌≡◌, ℕ, ◌≤◌, Bool, true, ◌&&◌, ◌||◌, not, List, [], ◌∷◌, ◌++◌, length, codes, bytes_eq, Option, Some, None, IsTrue, filter}
use Rattle.std.specs.List.{filter_map, list_any, list_all}
use Rattle.mon_base.specs.declared.method.MethodId.{MethodId}
use Rattle.api_listing.specs.declared.descriptor.Element.{Element}
use Rattle.api_listing.specs.declared.descriptor.Element.TheVariants as elements
use Rattle.api_listing.specs.declared.descriptor.FieldType.{FieldType}
use Rattle.api_listing.specs.declared.descriptor.MethodType.{MethodType}
use Rattle.api_listing.specs.declared.types.ListedClass.{ListedClass}
use Rattle.api_listing.specs.declared.types.ListedMethod.{ListedMethod}
use Rattle.api_listing.specs.declared.types.Listing.{Listing}
use Rattle.api_listing.specs.declared.declaration.Declaration.{Declaration}
use Rattle.api_listing.specs.declared.declaration.Declaration.TheVariants.{Class, Method, Field}
use Rattle.api_listing.specs.Words.{pieces}
use Rattle.api_listing.specs.BuiltIn.{built_in_classes, is_built_in, is_method}
use Rattle.api_listing.specs.Lines.{says_something, EncodesLine}

-- ---- what is known and what stands already

-- whether one of the classes has the name
abbrev pub is_known : List ListedClass → List ℕ → Bool
is_known classes name = list_any (λ c. bytes_eq c.name name) classes

abbrev pub has_method : List ListedMethod → MethodId → Bool
has_method methods id = list_any (λ m. is_method id.class id.name id.desc m.id) methods

abbrev pub has_field : List MethodId → MethodId → Bool
has_field fields id = list_any (λ f. is_method id.class id.name id.desc f) fields

-- The tool keeps this class for itself.
abbrev pub own_class : List ℕ
own_class = codes "conspec/State"

-- whether the declaration stands in the listing, is built in, or is of the tool's own class
abbrev pub stands_already : Listing → Declaration → Bool
stands_already listing (Class c) = is_known listing.classes c.name || bytes_eq c.name own_class
stands_already listing (Method m types) = has_method listing.methods m.id || is_built_in m.id.class m.id.name m.id.desc
stands_already listing (Field id class) = has_field listing.fields id

abbrev pub element_is_known : (List ℕ → Bool) → Element → Bool
element_is_known known (elements.Class name) = known name
element_is_known known other = true

abbrev pub result_is_known : (List ℕ → Bool) → Option FieldType → Bool
result_is_known known None = true
result_is_known known (Some t) = element_is_known known t.element

-- whether each class that the types name is known
abbrev pub types_are_known : (List ℕ → Bool) → MethodType → Bool
types_are_known known types = list_all (λ t. element_is_known known t.element) types.arguments && result_is_known known types.result

-- whether a class's superclass and interfaces are among the classes
abbrev pub is_below : List ListedClass → ListedClass → Bool
is_below classes c = is_known classes c.parent && list_all (is_known classes) c.interfaces

-- Whether what the declaration names is known: of a class before it, else anywhere.
abbrev pub names_known : (List ℕ → Bool) → Listing → Declaration → Bool
names_known known listing (Class c) = is_below listing.classes c
names_known known listing (Method m types) = known m.id.class && types_are_known known types
names_known known listing (Field id class) = known id.class && known class

-- ---- encoding

abbrev pub class_declared : Declaration → Option ListedClass
class_declared (Class c) = Some c
class_declared (Method m types) = None
class_declared (Field id class) = None

abbrev pub method_declared : Declaration → Option ListedMethod
method_declared (Class c) = None
method_declared (Method m types) = Some m
method_declared (Field id class) = None

abbrev pub field_declared : Declaration → Option MethodId
field_declared (Class c) = None
field_declared (Method m types) = None
field_declared (Field id class) = Some id

-- the built-in classes, and then what is declared, each in its order
abbrev pub listing_of : List Declaration → Listing
listing_of said = record {
  classes = built_in_classes ++ filter_map class_declared said;
  methods = filter_map method_declared said;
  fields = filter_map field_declared said;
}

-- The lines encode the declarations, one each, in words between single spaces.
abbrev pub AreSaid : List (List ℕ) → List Declaration → Type 0
AreSaid [] [] = Unit {0}
AreSaid [] (d ∷ said) = ⊥
AreSaid (line ∷ lines) [] = ⊥
AreSaid (line ∷ lines) (d ∷ said) = EncodesLine (pieces 32 line) d × AreSaid lines said

-- Each declares what does not stand before it.
abbrev pub AreOnce : List Declaration → Type 0
AreOnce said = (before after : List Declaration) (d : Declaration) → said ≡ before ++ d ∷ after → IsTrue (not (stands_already (listing_of before) d))

-- Each names what is known: a class its superclass and interfaces before it, a method or field classes of the listing.
abbrev pub AreNamed : Listing → List Declaration → Type 0
AreNamed listing said =
    (before after : List Declaration) (d : Declaration) → said ≡ before ++ d ∷ after → IsTrue (names_known (is_known listing.classes) (listing_of before) d)

-- The lines of the text, without those that say nothing, encode the listing after the built-in classes.
pub record EncodesListing (text : List ℕ) (listing : Listing) : Type 0 where
  pub lines : List (List ℕ)
  pub said : List Declaration
  pub ended : pieces 10 text ≡ lines ++ [] ∷ []
  pub few : length lines ≤ 20000
  pub encoded : AreSaid (filter says_something lines) said
  pub listed : listing ≡ listing_of said
  pub once : AreOnce said
  pub named : AreNamed listing said

-- A text has at most 20,000 lines, and 20 classes are built in.
pub record IsFew (listing : Listing) : Type 0 where
  pub classes : length listing.classes ≤ 20020
  pub methods : length listing.methods ≤ 20000
  pub fields : length listing.fields ≤ 20000
