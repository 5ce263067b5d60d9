-- What is read off a descriptor without memory is what the listing reads of it. (docs/TYPING.md)
use Rattle.std.specs.Prelude.{◌≡◌, ℕ, List, map, Ok}
use Rattle.api_listing.specs.declared.descriptor.MethodType.{MethodType}
use Rattle.api_listing.specs.Descriptor.{type_encoded, result_encoded, method_type}
use Rattle.bytecode_model.specs.Described.{arguments, result_text}

-- The types of the arguments, and of the result, are those of the method's type.
abbrev pub DescriptorsAgree : Type 0
DescriptorsAgree =
    (desc : List ℕ) (m : MethodType) → method_type desc ≡ Ok m → (arguments desc ≡ map type_encoded m.arguments) × (result_text desc ≡ result_encoded m.result)
