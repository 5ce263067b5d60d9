-- What a listing declares: its methods have descriptors of methods, and its fields are of classes that it knows.
use Rattle.std.proofs.Common.{◌≡◌, ℕ, ◌-◌, true, List, [], ◌∷◌, ◌++◌, length, take, Some, Ok, refl, sym, ap, subst, ◌∙◌, append_assoc, arith}
use Rattle.std.specs.Prelude.{IsTrue, slice_get}
use Rattle.std.specs.List.{AllByRecursion, filter_map}
use Rattle.std.proofs.lemmas.Bool.{and_parts}
use Rattle.std.proofs.lemmas.List.{length-append}
use Rattle.std.proofs.Math.Seq.{take-append_seam}
use Rattle.mon_base.specs.declared.method.MethodId.{MethodId}
use Rattle.api_listing.specs.declared.declaration.Declaration.{Declaration}
use Rattle.api_listing.specs.declared.declaration.Declaration.TheVariants.{Class, Method, Field}
use Rattle.api_listing.specs.declared.descriptor.MethodType.{MethodType}
use Rattle.api_listing.specs.declared.types.ListedClass.{ListedClass}
use Rattle.api_listing.specs.declared.types.ListedMethod.{ListedMethod}
use Rattle.api_listing.specs.declared.types.Listing.{Listing}
use Rattle.api_listing.specs.Descriptor.{EncodesClass, EncodesDescriptor, class_encoded, method_type}
use Rattle.api_listing.specs.Lines.{EncodesLine}
use Rattle.api_listing.specs.Listing.{AreSaid, EncodesListing, field_declared, is_known, listing_of, method_declared, names_known, result_is_known, types_are_known}
use Rattle.api_listing.specs.Words.{pieces}
use Rattle.api_listing.proofs.DescriptorLaws.{method_again}
use Rattle.cert_format.specs.declared.typing.VType.TheVariants as types
use Rattle.bytecode_model.specs.Described.{type_described}
use Rattle.bytecode_model.specs.SearchOrder.{Name}
use Rattle.guest_model.specs.Runs.{inner}
use Rattle.guest_model.proofs.Options.{all_get}

-- ---- each declaration

-- A line encodes it.
abbrev pub IsEncoded : Declaration → Type 0
IsEncoded d = (words : List (List ℕ)) × EncodesLine words d

all_encoded : (lines : List (List ℕ)) (said : List Declaration) → AreSaid lines said → AllByRecursion IsEncoded said
all_encoded [] [] s = tt
all_encoded [] (d ∷ said) s = absurd s
all_encoded (line ∷ lines) [] s = absurd s
all_encoded (line ∷ lines) (d ∷ said) s = ((pieces 32 line, s.0), all_encoded lines said s.1)

module _ (classes : List ListedClass) where
  -- What it names is known.
  abbrev IsNamedIn : Declaration → Type 0
  IsNamedIn d = (before : Listing) × (names_known (is_known classes) before d ≡ true)

  all_named : (all before said : List Declaration) → all ≡ before ++ said
      → ((front after : List Declaration) (d : Declaration) → all ≡ front ++ d ∷ after → IsTrue (names_known (is_known classes) (listing_of front) d))
      → AllByRecursion IsNamedIn said
  all_named all before [] is each = tt
  all_named all before (d ∷ said) is each =
      ((listing_of before, each before said d is), all_named all (before ++ d ∷ []) said (is ∙ sym (append_assoc before (d ∷ []) said)) each)

  -- the class of a field, which is known
  abbrev IsFieldOf : MethodId → Type 0
  IsFieldOf id = (class : Name) × EncodesClass id.desc class × (is_known classes class ≡ true)

  fields_known : (said : List Declaration) → AllByRecursion IsEncoded said → AllByRecursion IsNamedIn said
      → AllByRecursion IsFieldOf (filter_map field_declared said)
  fields_known [] s n = tt
  fields_known (Class c ∷ said) s n = fields_known said s.1 n.1
  fields_known (Method m types ∷ said) s n = fields_known said s.1 n.1
  fields_known (Field id class ∷ said) s n =
      let known = (and_parts (is_known classes id.class) (is_known classes class) n.0.1).1 in
      ((class, s.0.1.1, known), fields_known said s.1 n.1)

  -- A method is of a class, and of types, that are known.
  pub record IsMethodOf (listed : ListedMethod) : Type 0 where
    pub types : MethodType
    pub encoded : EncodesDescriptor listed.id.desc types
    pub read : method_type listed.id.desc ≡ Ok types
    pub class : is_known classes listed.id.class ≡ true
    pub result : result_is_known (is_known classes) types.result ≡ true

  methods_known : (said : List Declaration) → AllByRecursion IsEncoded said → AllByRecursion IsNamedIn said
      → AllByRecursion IsMethodOf (filter_map method_declared said)
  methods_known [] s n = tt
  methods_known (Class c ∷ said) s n = methods_known said s.1 n.1
  methods_known (Method m types ∷ said) s n =
      let known = and_parts (is_known classes m.id.class) (types_are_known (is_known classes) types) n.0.1 in (
        record {
          types = types;
          encoded = s.0.1.1;
          read = method_again m.id.desc types s.0.1.1;
          class = known.0;
          result = (and_parts _ (result_is_known (is_known classes) types.result) known.1).1;
        },
        methods_known said s.1 n.1,
      )
  methods_known (Field id class ∷ said) s n = methods_known said s.1 n.1

-- ---- the class that a field's descriptor names

without_end : (name : Name) → take (length (name ++ 59 ∷ []) - 1) (name ++ 59 ∷ []) ≡ name
without_end name =
    let long : length (name ++ 59 ∷ []) - 1 ≡ length name = omega (arith, length-append name (59 ∷ [])) in
    ap (λ (n : ℕ). take n (name ++ 59 ∷ [])) long ∙ take-append_seam name (59 ∷ [])

pub inner_encoded : (name : Name) → inner (class_encoded name) ≡ name
inner_encoded name = without_end name

pub described_encoded : (name : Name) → type_described (class_encoded name) ≡ types.Ref name
described_encoded name = ap types.Ref (without_end name)

-- ---- what stands in a listing

module _ (text : List ℕ) (listing : Listing) (encoded : EncodesListing text listing) where
  each_encoded : AllByRecursion IsEncoded encoded.said
  each_encoded = all_encoded _ encoded.said encoded.encoded

  each_named : AllByRecursion (IsNamedIn listing.classes) encoded.said
  each_named = all_named listing.classes encoded.said [] encoded.said refl (λ front after d e. encoded.named front after d e)

  pub method_listed : (index : ℕ) (listed : ListedMethod) → slice_get listing.methods index ≡ Some listed → IsMethodOf listing.classes listed
  method_listed index listed there =
      all_get (IsMethodOf listing.classes) (filter_map method_declared encoded.said) index listed (methods_known listing.classes encoded.said each_encoded each_named)
      (subst (λ (l : Listing). slice_get l.methods index ≡ Some listed) encoded.listed there)

  pub listed_method : (index : ℕ) (listed : ListedMethod) → slice_get listing.methods index ≡ Some listed → (m : MethodType) × (method_type listed.id.desc ≡ Ok m)
  listed_method index listed there = let m = method_listed index listed there in (m.types, m.read)

  -- A field of the listing is an object of a class that the listing knows.
  pub record ListedField (field : MethodId) : Type 0 where
    pub class : Name
    pub desc : field.desc ≡ class_encoded class
    pub known : is_known listing.classes class ≡ true

  pub listed_field : (index : ℕ) (field : MethodId) → slice_get listing.fields index ≡ Some field → ListedField field
  listed_field index field there =
      let all = fields_known listing.classes encoded.said each_encoded each_named in
      let f = all_get (IsFieldOf listing.classes) (filter_map field_declared encoded.said) index field all
      (subst (λ (l : Listing). slice_get l.fields index ≡ Some field) encoded.listed there) in
      record { class = f.0; desc = f.1.encoded; known = f.2 }
