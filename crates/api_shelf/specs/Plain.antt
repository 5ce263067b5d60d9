-- The answer that a call gets where no device stands for the library: by the type of the method's result. (docs/RUNS.md)
use Rattle.std.specs.Prelude.{◌≡◌, ℕ, pos, ◌==◌, ◌&&◌, ◌||◌, Bool, List, [], ◌∷◌, Option, Some, None, bytes_eq, codes, if◌then◌else◌}
use Rattle.api_listing.specs.declared.descriptor.Element.{Element}
use Rattle.api_listing.specs.declared.descriptor.Element.TheVariants.{Boolean, Byte, Char, Short, Int, Class}
use Rattle.api_listing.specs.declared.descriptor.FieldType.{FieldType}
use Rattle.api_listing.specs.declared.descriptor.MethodType.{MethodType}
use Rattle.api_listing.specs.declared.events.ApiAnswer.{ApiAnswer}
use Rattle.api_listing.specs.declared.events.ApiAnswer.TheVariants as answers
use Rattle.api_listing.specs.declared.events.ApiCall.{ApiCall}
use Rattle.api_listing.specs.Descriptor.{EncodesDescriptor, class_described}

-- ---- by the type of the result

-- The receiver where there is one and the result is of the method's own class, the empty text where it is of class
-- String, and else null.
abbrev pub plain_object : ApiCall → List ℕ → ApiAnswer
plain_object call name =
    if call.instance && bytes_eq name call.method.class then answers.Receiver
    else if bytes_eq name (codes "java/lang/String") then answers.Text []
    else answers.Null

abbrev pub plain_element : ApiCall → Element → ApiAnswer
plain_element call Boolean = answers.Int (pos 0)
plain_element call Byte = answers.Int (pos 0)
plain_element call Char = answers.Int (pos 0)
plain_element call Short = answers.Int (pos 0)
plain_element call Int = answers.Int (pos 0)
plain_element call (Class name) = plain_object call name

-- Nothing where there is no result, 0 for a number, null for an array.
abbrev pub plain_for : ApiCall → Option FieldType → ApiAnswer
plain_for call None = answers.Nothing
plain_for call (Some t) = if t.dimensions == 0 then plain_element call t.element else answers.Null

-- ---- by the text of the descriptor

-- what stands after the arguments
abbrev pub result_text : List ℕ → List ℕ
result_text [] = []
result_text (b ∷ bytes) = if b == 41 then bytes else result_text bytes

-- the letter of a number's type
abbrev pub encodes_number : List ℕ → Bool
encodes_number text =
    bytes_eq text (codes "Z") || (bytes_eq text (codes "B") || (bytes_eq text (codes "C") || (bytes_eq text (codes "S") || bytes_eq text (codes "I"))))

abbrev pub plain_named : ApiCall → Option (List ℕ) → ApiAnswer
plain_named call None = answers.Null
plain_named call (Some name) = plain_object call name

abbrev pub plain_encoded : ApiCall → List ℕ → ApiAnswer
plain_encoded call text =
    if bytes_eq text (codes "V") then answers.Nothing
    else if encodes_number text then answers.Int (pos 0)
    else plain_named call (class_described text)

-- The plain answer to any call. A result that is no type counts as one of a class that is not named.
abbrev pub plain_answer : ApiCall → ApiAnswer
plain_answer call = plain_encoded call (result_text call.method.desc)

-- ---- what it is

-- The type that the descriptor encodes for the result decides it.
abbrev pub PlainIsByType : Type 0
PlainIsByType = (call : ApiCall) (types : MethodType) → EncodesDescriptor call.method.desc types → plain_answer call ≡ plain_for call types.result
