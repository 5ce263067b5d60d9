-- The lines of a listing, each by itself: what its words are read as. (docs/LISTINGS.md)
use Rattle.std.specs.Prelude.{ℕ, ◌-◌, Bool, true, false, ◌&&◌, ◌==◌, not, List, [], ◌∷◌, ◌++◌, length, map, take, codes, bytes_eq, Ok, Err, ok_or, if◌then◌else◌}
use Rattle.std.specs.List.{slice_index_or}
use Rattle.mon_base.specs.Reading.{◌>>=◌, need}
use Rattle.mon_base.specs.declared.method.MethodId.{MethodId}
use Rattle.api_listing.specs.declared.fault.FormFault.TheVariants.{NoForm}
use Rattle.api_listing.specs.declared.types.ListedClass.{ListedClass}
use Rattle.api_listing.specs.declared.declaration.Declaration.{Declaration}
use Rattle.api_listing.specs.declared.declaration.Declaration.TheVariants.{Class, Method, Field}
use Rattle.listing_text.specs.declared.lines.Said.{Said}
use Rattle.listing_text.specs.declared.lines.Said.TheVariants as saids
use Rattle.api_listing.specs.Words.{pieces, is_class_name}
use Rattle.api_listing.specs.BuiltIn.{object}
use Rattle.api_listing.specs.Descriptor.{method_type, class_described}
use Rattle.api_listing.specs.Fault.{Read}
use Rattle.api_listing.specs.Lines.{are_class_names, says_something}

abbrev pub interface_named : List ℕ → ListedClass
interface_named name = record { name = name; parent = object; interfaces = []; is_interface = true }

abbrev pub member : List ℕ → List ℕ → List ℕ → MethodId
member class name desc = record { class = class; name = name; desc = desc }

unfoldable pub class_line : List ℕ → List ℕ → List (List ℕ) → Read Declaration
class_line name parent interfaces = do
  named ← need (is_class_name name && (is_class_name parent && are_class_names interfaces)) NoForm
  Ok (Class (record { name = name; parent = parent; interfaces = interfaces; is_interface = false }))

unfoldable pub method_line : Bool → List ℕ → List ℕ → List ℕ → Read Declaration
method_line is_static class name desc = do
  named ← need (is_class_name class && not (length name == 0)) NoForm
  types ← method_type desc
  Ok (Method (record { id = member class name desc; is_static = is_static }) types)

abbrev pub class_of : List ℕ → Read (List ℕ)
class_of desc = ok_or (class_described desc) NoForm

unfoldable pub field_line : List ℕ → List ℕ → List ℕ → Read Declaration
field_line class name desc = do
  named ← need (is_class_name class && not (length name == 0)) NoForm
  of ← class_of desc
  Ok (Field (member class name desc) of)

unfoldable pub two_words : List ℕ → List ℕ → Read Declaration
two_words verb name = do
  named ← need (bytes_eq verb (codes "interface") && is_class_name name) NoForm
  Ok (Class (interface_named name))

unfoldable pub four_words : List ℕ → List ℕ → List ℕ → List ℕ → Read Declaration
four_words verb class third last =
    if bytes_eq verb (codes "class") && bytes_eq third (codes "extends") then class_line class last []
    else if bytes_eq verb (codes "method") then method_line false class third last
    else if bytes_eq verb (codes "static") then method_line true class third last
    else if bytes_eq verb (codes "field") then field_line class third last
    else Err NoForm

unfoldable pub six_words : List ℕ → List ℕ → List ℕ → List ℕ → List ℕ → List ℕ → Read Declaration
six_words verb class extends parent implements interfaces =
    if bytes_eq verb (codes "class") && (bytes_eq extends (codes "extends") && bytes_eq implements (codes "implements"))
    then class_line class parent (pieces 44 interfaces)
    else Err NoForm

-- what the words of a line declare
unfoldable pub form_of : List (List ℕ) → Read Declaration
form_of (a ∷ b ∷ []) = two_words a b
form_of (a ∷ b ∷ c ∷ d ∷ []) = four_words a b c d
form_of (a ∷ b ∷ c ∷ d ∷ e ∷ f ∷ []) = six_words a b c d e f
form_of words = Err NoForm

abbrev pub said_as : Read Declaration → Said
said_as (Ok declaration) = saids.Says declaration
said_as (Err e) = saids.NoForm

-- what a line says
abbrev pub said : List ℕ → Said
said line = if says_something line then said_as (form_of (pieces 32 line)) else saids.Nothing

-- What stands after the last newline is nothing, or a line of no form.
abbrev pub ending : List ℕ → List Said
ending [] = []
ending (b ∷ bytes) = saids.NoForm ∷ []

-- what the lines say that stand between newlines, and what stands after the last
abbrev pub said_lines : List (List ℕ) → List Said
said_lines parts = map said (take (length parts - 1) parts) ++ ending (slice_index_or parts (length parts - 1) [])
