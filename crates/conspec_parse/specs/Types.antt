-- The types that a policy names, as descriptors say them. (docs/POLICIES.md)
use Rattle.std.specs.Prelude.{◌||◌, not, ℕ, Bool, List, [], ◌∷◌, ◌++◌, drop, codes, Option, Some, None, Ok, if◌then◌else◌}
use Rattle.mon_base.specs.Reading.{◌>>=◌, need}
use Rattle.api_listing.specs.Descriptor.{class_encoded}
use Rattle.conspec_tokens.specs.declared.token.Token.{Token}
use Rattle.conspec_tree.specs.declared.types.Kind.{Kind}
use Rattle.conspec_tree.specs.declared.types.Kind.TheVariants as kinds
use Rattle.conspec_parse.specs.declared.type_name.TypeName.{TypeName}
use Rattle.conspec_parse.specs.declared.fault.PolicyFault.TheVariants.{Limit}
use Rattle.conspec_parse.specs.Forms.{Parsed, following, name_at, is_short, each}
use Rattle.conspec_tokens.specs.Front.{front_at, is_next}

-- a name that is not too long, where names are judged
unfoldable pub judged_name : Bool → List Token → Parsed (List ℕ)
judged_name judged tokens = do
  name ← name_at tokens
  short ← need (not judged || is_short name.0) (Limit (front_at tokens))
  Ok name

abbrev pub type_named : List ℕ → Option Kind → TypeName
type_named desc kind = record { desc = desc; kind = kind }

-- the type that the first token is, where it is a keyword
abbrev pub plain_type : List Token → Option TypeName
plain_type tokens =
    if is_next (codes "void") tokens then Some (type_named (codes "V") None)
    else if is_next (codes "int") tokens then Some (type_named (codes "I") (Some kinds.Int))
    else if is_next (codes "boolean") tokens then Some (type_named (codes "Z") (Some kinds.Bool))
    else if is_next (codes "byte") tokens then Some (type_named (codes "B") (Some kinds.Byte))
    else if is_next (codes "short") tokens then Some (type_named (codes "S") (Some kinds.Short))
    else if is_next (codes "char") tokens then Some (type_named (codes "C") (Some kinds.Char))
    else None

-- a dot and a name, onto the names before
unfoldable pub next_part : Bool → List ℕ → List Token → Parsed (List ℕ)
next_part judged class tokens = do
  dot ← following (codes ".") tokens
  name ← judged_name judged dot
  Ok (class ++ 47 ∷ name.0, name.1)

-- a class: names with dots between, as a descriptor has them with `/`
unfoldable pub class_at : Bool → List Token → Parsed (List ℕ)
class_at judged tokens = do
  first ← judged_name judged tokens
  each (is_next (codes ".")) (next_part judged) first.0 first.1

unfoldable pub class_type_at : Bool → List Token → Parsed TypeName
class_type_at judged tokens = do
  class ← class_at judged tokens
  Ok (type_named (class_encoded class.0) (Some kinds.Object), class.1)

abbrev pub element_of : Option TypeName → Bool → List Token → Parsed TypeName
element_of (Some plain) judged tokens = Ok (plain, drop 1 tokens)
element_of None judged tokens = class_type_at judged tokens

-- a type that is no array
abbrev pub element_at : Bool → List Token → Parsed TypeName
element_at judged tokens = element_of (plain_type tokens) judged tokens

-- `[]`: one dimension more
unfoldable pub dimension_at : List ℕ → List Token → Parsed (List ℕ)
dimension_at brackets tokens = do
  opened ← following (codes "[") tokens
  closed ← following (codes "]") opened
  Ok (brackets ++ 91 ∷ [], closed)

-- the array with these dimensions
abbrev pub array_of : List ℕ → TypeName → TypeName
array_of [] element = element
array_of (b ∷ brackets) element = type_named ((b ∷ brackets) ++ element.desc) (Some kinds.Object)

unfoldable pub type_at : Bool → List Token → Parsed TypeName
type_at judged tokens = do
  element ← element_at judged tokens
  brackets ← each (is_next (codes "[")) dimension_at [] element.1
  Ok (array_of brackets.0 element.0, brackets.1)
