-- What look-ups among declarations find: only those of the listing name its methods, and a field is of one of the files.
use Rattle.std.proofs.Common.{◌≡◌, ℕ, ◌<◌, List, length, Some, refl, sym, ap}
use Rattle.std.specs.Prelude.{slice_get, ⊤}
use Rattle.std.specs.List.{AllByRecursion}
use Rattle.std.proofs.lemmas.Option.{slice_get_within}
use Rattle.mon_base.specs.declared.method.MethodId.{MethodId}
use Rattle.class_codec.specs.declared.tree.ClassFile.{ClassFile}
use Rattle.api_listing.specs.declared.types.ListedMethod.{ListedMethod}
use Rattle.api_listing.specs.declared.types.Listing.{Listing}
use Rattle.bytecode_model.specs.declared.members.Found.{Found}
use Rattle.bytecode_model.specs.declared.program.Target.{Target}
use Rattle.bytecode_model.specs.declared.program.Target.TheVariants as target
use Rattle.bytecode_model.specs.Members.{Declared, methods_declared, fields_declared, in_class, method_of, field_of}
use Rattle.class_linking.proofs.Nearest.{near_said, all_methods_said, all_fields_said}

-- ---- what is declared

-- the target is no method of the listing, and a field is of one of the first n classes
abbrev pub IsUnlisted : ℕ → Target → Type 0
IsUnlisted n (target.ApiMethod index) = ⊥
IsUnlisted n (target.Field of index) = of < n
IsUnlisted n other = ⊤

-- the target is unlisted, or it is the method of the listing that has the name
abbrev IsNamed : ℕ → List ListedMethod → MethodId → Target → Type 0
IsNamed n methods id (target.ApiMethod index) = (m : ListedMethod) × ((slice_get methods index ≡ Some m) × (m.id ≡ id))
IsNamed n methods id (target.Field of index) = of < n
IsNamed n methods id other = ⊤

-- the same by its descriptor alone
abbrev pub IsTold : ℕ → List ListedMethod → List ℕ → Target → Type 0
IsTold n methods desc (target.ApiMethod index) = (m : ListedMethod) × ((slice_get methods index ≡ Some m) × (desc ≡ m.id.desc))
IsTold n methods desc (target.Field of index) = of < n
IsTold n methods desc other = ⊤

named_told : (n : ℕ) (methods : List ListedMethod) (id : MethodId) (t : Target) → IsNamed n methods id t → IsTold n methods id.desc t
named_told n methods id (target.ApiMethod index) h = (h.0, (h.1.0, sym (ap (λ (i : MethodId). i.desc) h.1.1)))
named_told n methods id t h = h

pub unlisted_told : (n : ℕ) (methods : List ListedMethod) (desc : List ℕ) (t : Target) → IsUnlisted n t → IsTold n methods desc t
unlisted_told n methods desc (target.ApiMethod index) h = absurd h
unlisted_told n methods desc t h = h

abbrev IsElsewhere : ℕ → Declared → Type 0
IsElsewhere n d = IsUnlisted n d.1.target

abbrev IsOfListing : ℕ → List ListedMethod → Declared → Type 0
IsOfListing n methods d = IsNamed n methods d.0 d.1.target

methods_fit : (files : List ClassFile) (listing : Listing) → AllByRecursion (IsOfListing (length files) listing.methods) (methods_declared files listing)
methods_fit files listing =
    all_methods_said (IsOfListing (length files) listing.methods) files listing (λ i j file member here there. tt) (λ i m there. (m, (there, refl))) (λ i row there. tt)

fields_fit : (files : List ClassFile) (listing : Listing) → AllByRecursion (IsElsewhere (length files)) (fields_declared files listing)
fields_fit files listing = all_fields_said (IsElsewhere (length files)) files listing (λ i j file member here there. slice_get_within files i file here) (λ i id there. tt)

-- ---- what references find

-- A reference that finds a method of the listing has its descriptor.
pub method_found : (files : List ClassFile) (listing : Listing) (id : MethodId) (found : Found) → method_of files listing id ≡ Some found → IsTold (length files) listing.methods id.desc found.target
method_found files listing id found e =
    let near = near_said (IsOfListing (length files) listing.methods) (methods_declared files listing) id found _ (methods_fit files listing) e in
    named_told (length files) listing.methods (in_class id near.declaring) found.target near.said

-- A reference that finds a field of the files finds the number of its file.
pub field_found : (files : List ClassFile) (listing : Listing) (id : MethodId) (found : Found) → field_of files listing id ≡ Some found → IsUnlisted (length files) found.target
field_found files listing id found e = (near_said (IsElsewhere (length files)) (fields_declared files listing) id found _ (fields_fit files listing) e).said
