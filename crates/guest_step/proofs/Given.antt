-- What the listing gives of methods.
use Rattle.std.proofs.Common.{◌≡◌, Bool, false, Option, Some, None, refl}
use Rattle.std.specs.Option.{option_map, option_map_or}
use Rattle.api_listing.specs.declared.descriptor.FieldType.{FieldType}
use Rattle.api_listing.specs.declared.types.ListedMethod.{ListedMethod}
use Rattle.guest_model.specs.Answering.{result_class}
use Rattle.guest_model.specs.Calls.{types_of}
use Rattle.guest_tables.specs.declared.library.ListedResult.{ListedResult}
use Rattle.guest_tables.specs.Library.{gives}

-- what is given of a listed method has the class of its type
pub class_of_type : (o : Option ListedMethod) (g : ListedResult) → Some g ≡ option_map (λ (m : ListedMethod). gives m.id.desc) o → g.class ≡ result_class g.of
class_of_type None g e = absurd cc
class_of_type (Some m) g e =
    let same : g ≡ gives m.id.desc = cc in
    rw same refl

-- a test of the method's result is one of what is given of it
pub of_given : (test : Option FieldType → Bool) (o : Option ListedMethod)
    → option_map_or (λ (result : ListedResult). test result.of) (option_map (λ (listed : ListedMethod). gives listed.id.desc) o) false
    ≡ option_map_or (λ (listed : ListedMethod). test (types_of listed.id.desc).result) o false
of_given test None = refl
of_given test (Some listed) = refl
