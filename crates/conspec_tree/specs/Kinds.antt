-- What is known of kinds and relations. (docs/POLICIES.md)
use Rattle.std.specs.Prelude.{ℕ, zero, suc, ℤ, pos, ◌-ℤ◌, Bool, true, false, Option, Some, None, is_some, option_and_then}
use Rattle.api_listing.specs.declared.descriptor.Element.{Element}
use Rattle.api_listing.specs.declared.descriptor.Element.TheVariants as elements
use Rattle.api_listing.specs.declared.descriptor.FieldType.{FieldType}
use Rattle.conspec_tree.specs.declared.types.Kind.{Kind}
use Rattle.conspec_tree.specs.declared.types.Kind.TheVariants as kinds
use Rattle.conspec_tree.specs.declared.types.Rel.{Rel}
use Rattle.conspec_tree.specs.declared.types.Rel.TheVariants as rels

-- ---- the numbers of a kind

-- the least and the greatest number of the kind; an object is no number
abbrev pub number_range : Kind → Option (ℤ × ℤ)
number_range kinds.Int = Some (pos 0 -ℤ pos 2147483648, pos 2147483647)
number_range kinds.Bool = Some (pos 0, pos 1)
number_range kinds.Byte = Some (pos 0 -ℤ pos 128, pos 127)
number_range kinds.Short = Some (pos 0 -ℤ pos 32768, pos 32767)
number_range kinds.Char = Some (pos 0, pos 65535)
number_range kinds.Object = None

-- Code can pass any number of 32 bits, for a narrow type too.
abbrev pub passed_range : Kind → Option (ℤ × ℤ)
passed_range kind = option_and_then (λ own. number_range kinds.Int) (number_range kind)

-- Its values are numbers.
abbrev pub is_number : Kind → Bool
is_number kind = is_some (number_range kind)

abbrev pub is_truth : Kind → Bool
is_truth kinds.Bool = true
is_truth kinds.Int = false
is_truth kinds.Byte = false
is_truth kinds.Short = false
is_truth kinds.Char = false
is_truth kinds.Object = false

-- ---- relations, and the kinds of types

-- Of truth values no other relation is asked.
abbrev pub is_equality : Rel → Bool
is_equality rels.Eq = true
is_equality rels.Ne = true
is_equality other = false

-- the kind of a type that is not `void` alone
abbrev pub kind_or_object : Option Kind → Kind
kind_or_object None = kinds.Object
kind_or_object (Some kind) = kind

abbrev pub element_kind : Element → Kind
element_kind elements.Boolean = kinds.Bool
element_kind elements.Byte = kinds.Byte
element_kind elements.Char = kinds.Char
element_kind elements.Short = kinds.Short
element_kind elements.Int = kinds.Int
element_kind (elements.Class name) = kinds.Object

-- that of an array of so many dimensions: an array is an object
abbrev pub array_kind : ℕ → Element → Kind
array_kind zero element = element_kind element
array_kind (suc n) element = kinds.Object

-- the kind of a type that a descriptor encodes
abbrev pub kind_of : FieldType → Kind
kind_of t = array_kind t.dimensions t.element
