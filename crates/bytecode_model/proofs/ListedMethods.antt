-- What a listing's text tells of its methods: the descriptor of each encodes types.
use Rattle.std.proofs.Common.{◌≡◌, ℕ, List, [], ◌∷◌, filter, Some, sym, ap, ◌∙◌}
use Rattle.std.specs.Prelude.{slice_get}
use Rattle.std.specs.List.{AllByRecursion, filter_map}
use Rattle.api_listing.specs.declared.declaration.Declaration.{Declaration}
use Rattle.api_listing.specs.declared.declaration.Declaration.TheVariants as declared
use Rattle.api_listing.specs.declared.descriptor.MethodType.{MethodType}
use Rattle.api_listing.specs.declared.types.ListedMethod.{ListedMethod}
use Rattle.api_listing.specs.declared.types.Listing.{Listing}
use Rattle.api_listing.specs.Descriptor.{EncodesDescriptor}
use Rattle.api_listing.specs.Lines.{says_something}
use Rattle.api_listing.specs.Listing.{AreSaid, EncodesListing, method_declared}
use Rattle.bytecode_model.proofs.Lists.{all_get}

-- The descriptor of the method encodes types.
abbrev pub HasTypes : ListedMethod → Type 0
HasTypes m = (types : MethodType) × EncodesDescriptor m.id.desc types

methods_said : (lines : List (List ℕ)) (said : List Declaration) → AreSaid lines said → AllByRecursion HasTypes (filter_map method_declared said)
methods_said [] [] are = tt
methods_said [] (d ∷ said) are = absurd are
methods_said (line ∷ lines) [] are = absurd are
methods_said (line ∷ lines) (declared.Class c ∷ said) are = methods_said lines said are.1
methods_said (line ∷ lines) (declared.Method m types ∷ said) are = ((types, are.0.1), methods_said lines said are.1)
methods_said (line ∷ lines) (declared.Field id class ∷ said) are = methods_said lines said are.1

pub method_encoded : (text : List ℕ) (listing : Listing) (index : ℕ) (m : ListedMethod) → EncodesListing text listing → slice_get listing.methods index ≡ Some m → HasTypes m
method_encoded text listing index m encodes there =
    let all = methods_said (filter says_something encodes.lines) encodes.said encodes.encoded in
    all_get HasTypes (filter_map method_declared encodes.said) index m all (ap (λ (l : Listing). slice_get l.methods index) (sym encodes.listed) ∙ there)
