-- The types that descriptors tell, read off their texts. (The Java Virtual Machine Specification, section 4.3.)
use Rattle.std.specs.Prelude.{ℕ, zero, suc, ◌+◌, ◌-◌, ◌==◌, if◌then◌else◌, bytes_eq, codes, List, [], ◌∷◌, length, take, drop, Option, Some, None}
use Rattle.std.specs.Option.{option_map_or}
use Rattle.cert_format.specs.declared.typing.VType.{VType}
use Rattle.cert_format.specs.declared.typing.VType.TheVariants as types

-- the text of a type
abbrev pub Descriptor : Type 0
Descriptor = List ℕ

-- how long a class's name at the front is, with the `;` after it
abbrev pub name_length : List ℕ → ℕ
name_length [] = 0
name_length (b ∷ text) = if b == 59 then 1 else name_length text + 1

-- how long the type at the front is: a `[` for each dimension, and then a letter, or `L` and a class
abbrev pub type_length : List ℕ → ℕ
type_length [] = 0
type_length (b ∷ text) = if b == 91 then type_length text + 1 else if b == 76 then name_length text + 1 else 1

abbrev pub first_type : List ℕ → Descriptor
first_type text = take (type_length text) text

abbrev pub after_type : List ℕ → List ℕ
after_type text = drop (type_length text) text

-- the type at the front and what stands after it, unless the arguments end there
abbrev pub next_type : List ℕ → Option (Descriptor × List ℕ)
next_type [] = None
next_type (b ∷ text) = if b == 41 then None else Some (first_type (b ∷ text), after_type (b ∷ text))

-- at most n types, up to the bracket after them
unfoldable pub types_at : ℕ → List ℕ → List Descriptor
types_at zero text = []
types_at (suc n) text = option_map_or (λ (r : Descriptor × List ℕ). r.0 ∷ types_at n r.1) (next_type text) []

-- the types of the arguments that a method's descriptor tells; a method takes at most 255
abbrev pub arguments : List ℕ → List Descriptor
arguments desc = types_at 255 (drop 1 desc)

-- what stands after the arguments
abbrev pub result_text : List ℕ → Descriptor
result_text [] = []
result_text (b ∷ text) = if b == 41 then text else result_text text

-- the type of a field, an argument or a result: each of the narrow numbers is an int
abbrev pub type_described : Descriptor → VType
type_described [] = types.Top
type_described (b ∷ text) = if b == 91 then types.Ref (b ∷ text) else if b == 76 then types.Ref (take (length text - 1) text) else types.Int

-- the type of a method's result, or nothing where it has none
abbrev pub result_type : List ℕ → Option VType
result_type desc = if bytes_eq (result_text desc) (codes "V") then None else Some (type_described (result_text desc))
