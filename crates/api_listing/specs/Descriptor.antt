-- Descriptors of methods and fields: how types are encoded, and how they are read from left to right.
-- (The Java Virtual Machine Specification, section 4.3)
use Rattle.std.specs.Prelude.{◌≡◌, ℕ, zero, suc, ◌+◌, ◌≤◌, ◌==◌, Bool, true, false, List, [], ◌∷◌, ◌++◌, length, drop, replicate, Option, Some, None, option_map, Ok, Err, ok_or, IsTrue, bytes_eq, codes, if◌then◌else◌}
use Rattle.std.specs.List.{flat_map, list_all}
use Rattle.mon_base.specs.Reading.{◌>>=◌, need}
use Rattle.api_listing.specs.declared.descriptor.Element.{Element}
use Rattle.api_listing.specs.declared.descriptor.Element.TheVariants.{Boolean, Byte, Char, Short, Int, Class}
use Rattle.api_listing.specs.declared.descriptor.FieldType.{FieldType}
use Rattle.api_listing.specs.declared.descriptor.MethodType.{MethodType}
use Rattle.api_listing.specs.declared.fault.FormFault.TheVariants.{NoForm}
use Rattle.api_listing.specs.Words.{is_class_name}
use Rattle.api_listing.specs.Fault.{Read}

-- ---- encoding

abbrev pub class_encoded : List ℕ → List ℕ
class_encoded name = 76 ∷ (name ++ 59 ∷ [])

abbrev pub element_encoded : Element → List ℕ
element_encoded Boolean = codes "Z"
element_encoded Byte = codes "B"
element_encoded Char = codes "C"
element_encoded Short = codes "S"
element_encoded Int = codes "I"
element_encoded (Class name) = class_encoded name

-- a `[` for each dimension
abbrev pub type_encoded : FieldType → List ℕ
type_encoded t = replicate t.dimensions 91 ++ element_encoded t.element

abbrev pub result_encoded : Option FieldType → List ℕ
result_encoded None = codes "V"
result_encoded (Some t) = type_encoded t

abbrev pub method_encoded : MethodType → List ℕ
method_encoded m = 40 ∷ (flat_map type_encoded m.arguments ++ 41 ∷ result_encoded m.result)

abbrev pub is_element : Element → Bool
is_element (Class name) = is_class_name name
is_element other = true

-- A class that is named has a class's name.
abbrev pub is_type : FieldType → Bool
is_type t = is_element t.element

abbrev pub is_result : Option FieldType → Bool
is_result None = true
is_result (Some t) = is_type t

-- The text encodes the types of a method: its arguments take at most 255 places.
pub record EncodesDescriptor (text : List ℕ) (m : MethodType) : Type 0 where
  pub encoded : text ≡ method_encoded m
  pub places : length m.arguments ≤ 255
  pub arguments : IsTrue (list_all is_type m.arguments)
  pub result : IsTrue (is_result m.result)

-- The text encodes this type, and nothing stands after it.
pub record EncodesType (text : List ℕ) (t : FieldType) : Type 0 where
  pub encoded : text ≡ type_encoded t
  pub named : IsTrue (is_type t)

-- The text encodes the type of this class.
pub record EncodesClass (text name : List ℕ) : Type 0 where
  pub encoded : text ≡ class_encoded name
  pub named : IsTrue (is_class_name name)

-- ---- reading

-- what stands before and after the first such byte
abbrev pub until : ℕ → List ℕ → Option (List ℕ × List ℕ)
until byte [] = None
until byte (b ∷ bytes) = if b == byte then Some ([], bytes) else option_map (λ r. (b ∷ r.0, r.1)) (until byte bytes)

abbrev pub when_named : List ℕ × List ℕ → Option (List ℕ × List ℕ)
when_named read = if is_class_name read.0 then Some read else None

abbrev pub named_only : Option (List ℕ × List ℕ) → Option (List ℕ × List ℕ)
named_only None = None
named_only (Some read) = when_named read

-- a class's name before the next `;`, and what stands after that
abbrev pub name_at : List ℕ → Option (List ℕ × List ℕ)
name_at bytes = named_only (until 59 bytes)

unfoldable pub class_at : List ℕ → Read (Element × List ℕ)
class_at bytes = ok_or (option_map (λ r. (Class r.0, r.1)) (name_at bytes)) NoForm

-- the element that this byte begins
unfoldable pub element_at : ℕ → List ℕ → Read (Element × List ℕ)
element_at first rest =
    if first == 90 then Ok (Boolean, rest)
    else if first == 66 then Ok (Byte, rest)
    else if first == 67 then Ok (Char, rest)
    else if first == 83 then Ok (Short, rest)
    else if first == 73 then Ok (Int, rest)
    else if first == 76 then class_at rest
    else Err NoForm

-- a type of n dimensions more
abbrev pub deeper : ℕ → FieldType × List ℕ → FieldType × List ℕ
deeper n read = (record { dimensions = n + read.0.dimensions; element = read.0.element }, read.1)

abbrev pub flat : Element × List ℕ → FieldType × List ℕ
flat read = (record { dimensions = 0; element = read.0 }, read.1)

unfoldable pub type_at : List ℕ → Read (FieldType × List ℕ)
type_at [] = Err NoForm
type_at (b ∷ bytes) =
    if b == 91 then (type_at bytes >>= λ read. Ok (deeper 1 read)) else (element_at b bytes >>= λ read. Ok (flat read))

-- a type with nothing after it
unfoldable pub whole_type : List ℕ → Read FieldType
whole_type bytes = do
  read ← type_at bytes
  end ← need (length read.1 == 0) NoForm
  Ok read.0

unfoldable pub result_of : List ℕ → Read (Option FieldType)
result_of bytes = if bytes_eq bytes (codes "V") then Ok None else (whole_type bytes >>= λ t. Ok (Some t))

abbrev pub is_closed : List ℕ → Bool
is_closed [] = false
is_closed (b ∷ bytes) = b == 41

-- fewer than n types and the bracket after them
unfoldable pub arguments_at : ℕ → List ℕ → Read (List FieldType × List ℕ)
arguments_at zero bytes = Err NoForm
arguments_at (suc n) bytes =
    if is_closed bytes then Ok ([], drop 1 bytes)
    else (type_at bytes >>= λ first. arguments_at n first.1 >>= λ others. Ok (first.0 ∷ others.0, others.1))

unfoldable pub after_first : ℕ → List ℕ → Read MethodType
after_first first rest = do
  opened ← need (first == 40) NoForm
  arguments ← arguments_at 256 rest
  result ← result_of arguments.1
  Ok (record { arguments = arguments.0; result = result })

unfoldable pub method_type : List ℕ → Read MethodType
method_type [] = Err NoForm
method_type (first ∷ rest) = after_first first rest

abbrev pub ended : Option (List ℕ × List ℕ) → Option (List ℕ)
ended None = None
ended (Some read) = if length read.1 == 0 then Some read.0 else None

abbrev pub class_after : ℕ → List ℕ → Option (List ℕ)
class_after first rest = if first == 76 then ended (name_at rest) else None

-- the class that a field's descriptor of class type names
abbrev pub class_described : List ℕ → Option (List ℕ)
class_described [] = None
class_described (first ∷ rest) = class_after first rest
