-- What a listing tells that is asked at each call of the library and each of its answers. (docs/MACHINE.md)
use Rattle.std.specs.Prelude.{ℕ, ◌&&◌, Bool, not, List, map}
use Rattle.api_listing.specs.declared.types.ListedClass.{ListedClass}
use Rattle.api_listing.specs.declared.types.ListedMethod.{ListedMethod}
use Rattle.api_listing.specs.declared.types.Listing.{Listing}
use Rattle.api_listing.specs.BuiltIn.{built_in_classes}
use Rattle.api_listing.specs.Listing.{is_known}
use Rattle.guest_model.specs.Answering.{result_class}
use Rattle.guest_model.specs.Calls.{arity, types_of}
use Rattle.guest_tables.specs.declared.library.ListedResult.{ListedResult}
use Rattle.guest_tables.specs.declared.library.Library.{Library}

-- the result of a method of the descriptor
abbrev pub gives : List ℕ → ListedResult
gives desc = record { of = (types_of desc).result; class = result_class (types_of desc).result }

-- whether an answer may make an object of the listed class
abbrev pub is_fresh : ListedClass → Bool
is_fresh c = not c.is_interface && not (is_known built_in_classes c.name)

abbrev pub library_of : Listing → Library
library_of listing = record {
  arities = map (λ (m : ListedMethod). arity m.id.desc) listing.methods;
  gives = map (λ (m : ListedMethod). gives m.id.desc) listing.methods;
  fresh = map is_fresh listing.classes;
}
