-- What a policy that was read tells of its methods, and that Throwable is a class of each listing.
use Rattle.std.proofs.Common.{◌≡◌, ℕ, zero, suc, Bool, true, false, cond, List, [], ◌∷◌, ◌++◌, length, map, replicate, Option, Some, None, refl, sym, ap, subst, ◌∙◌, append_assoc}
use Rattle.std.specs.Prelude.{ℤ, IfSome, bytes_eq, codes, option_map}
use Rattle.std.specs.List.{AllByRecursion, filter_map, list_any}
use Rattle.api_listing.specs.declared.descriptor.Element.{Element}
use Rattle.api_listing.specs.declared.descriptor.Element.TheVariants as elements
use Rattle.api_listing.specs.declared.descriptor.FieldType.{FieldType}
use Rattle.api_listing.specs.declared.descriptor.MethodType.{MethodType}
use Rattle.api_listing.specs.declared.types.ListedClass.{ListedClass}
use Rattle.api_listing.specs.declared.types.Listing.{Listing}
use Rattle.api_listing.specs.BuiltIn.{built_in_classes, class_rows, throwable}
use Rattle.api_listing.specs.Descriptor as listed
use Rattle.api_listing.specs.Descriptor.{EncodesDescriptor}
use Rattle.api_listing.specs.Listing.{EncodesListing, class_declared}
use Rattle.api_listing.specs.Nearest.{upwards}
use Rattle.bytecode_model.specs.declared.program.LinkedClass.{LinkedClass}
use Rattle.bytecode_model.specs.Described.{Descriptor, arguments, result_text, type_described}
use Rattle.bytecode_model.specs.Heads.{head_of}
use Rattle.bytecode_model.proofs.ListedMethods.{method_encoded}
use Rattle.conspec_tree.specs.declared.types.Kind.{Kind}
use Rattle.conspec_tree.specs.declared.types.TreeClause.{TreeClause}
use Rattle.conspec_tree.specs.Kinds.{array_kind, kind_of}
use Rattle.conspec_tree.specs.Telling.{ClauseTellsKinds, ClauseTellsResult}
use Rattle.conspec_automaton.specs.Building.{clause_built}
use Rattle.frame_types.proofs.Descriptors.{described_so}
use Rattle.woven_typing.specs.Telling.{AreOfKinds, ClauseTells, IsOfKind, IsOfResult, ListingsKnowThrowable, PoliciesTell}

-- ---- kinds

kind_fits : (n : ℕ) (e : Element) → IsOfKind (array_kind n e) (type_described (replicate n 91 ++ listed.element_encoded e))
kind_fits (suc n) e = (_, refl)
kind_fits zero elements.Boolean = refl
kind_fits zero elements.Byte = refl
kind_fits zero elements.Char = refl
kind_fits zero elements.Short = refl
kind_fits zero elements.Int = refl
kind_fits zero (elements.Class name) = (_, refl)

kinds_fit : (ts : List FieldType) → AreOfKinds (map kind_of ts) (map listed.type_encoded ts)
kinds_fit [] = tt
kinds_fit (t ∷ ts) = (kind_fits t.dimensions t.element, kinds_fit ts)

-- A type is encoded other than nothing is.
not_nothing : (n : ℕ) (e : Element) → bytes_eq (replicate n 91 ++ listed.element_encoded e) (codes "V") ≡ false
not_nothing (suc n) e = refl
not_nothing zero elements.Boolean = refl
not_nothing zero elements.Byte = refl
not_nothing zero elements.Char = refl
not_nothing zero elements.Short = refl
not_nothing zero elements.Int = refl
not_nothing zero (elements.Class name) = refl

-- ---- clauses

arguments_told : (args : List Kind) (desc : List ℕ) (types : MethodType) → EncodesDescriptor desc types → args ≡ map kind_of types.arguments
    → AreOfKinds args (arguments desc)
arguments_told args desc types encodes is =
    let told : arguments desc ≡ map listed.type_encoded types.arguments = (described_so desc types encodes).0 in
    subst (λ (ks : List Kind). AreOfKinds ks (arguments desc)) (sym is)
    (subst (λ (ds : List Descriptor). AreOfKinds (map kind_of types.arguments) ds) (sym told) (kinds_fit types.arguments))

result_told : (result : Option Kind) (desc : List ℕ) (types : MethodType) → EncodesDescriptor desc types → result ≡ option_map kind_of types.result
    → IfSome result (IsOfResult desc)
result_told result desc types encodes is = subst (λ (o : Option Kind). IfSome o (IsOfResult desc)) (sym is) (by types.result (described_so desc types encodes).1)
  where
    by : (o : Option FieldType) → result_text desc ≡ listed.result_encoded o → IfSome (option_map kind_of o) (IsOfResult desc)
    by None e = tt
    by (Some t) e = (
      type_described (listed.type_encoded t),
      ap (λ (text : List ℕ). cond (bytes_eq text (codes "V")) None (Some (type_described text))) e
          ∙ ap (λ (b : Bool). cond b None (Some (type_described (listed.type_encoded t)))) (not_nothing t.dimensions t.element),
      kind_fits t.dimensions t.element,
    )

module _ (text : List ℕ) (listing : Listing) (encodes : EncodesListing text listing) (maxint : ℤ) where
  clause_tells : (clause : TreeClause) → ClauseTellsKinds listing clause → ClauseTellsResult listing clause
      → ClauseTells listing (clause_built maxint clause)
  clause_tells clause kinds results method there =
      let encoded = method_encoded text listing clause.method method encodes there in
      record {
        arguments = arguments_told clause.args method.id.desc encoded.0 encoded.1 (kinds method encoded.0 there encoded.1);
        result = result_told clause.result method.id.desc encoded.0 encoded.1 (results method encoded.0 there encoded.1);
      }

  clauses_tell : (clauses : List TreeClause) → AllByRecursion (ClauseTellsKinds listing) clauses
      → AllByRecursion (ClauseTellsResult listing) clauses → AllByRecursion (ClauseTells listing) (map (clause_built maxint) clauses)
  clauses_tell [] kinds results = tt
  clauses_tell (clause ∷ clauses) kinds results = (clause_tells clause kinds.0 results.0, clauses_tell clauses kinds.1 results.1)

pub policies_tell : PoliciesTell
policies_tell text listing tree encodes kinds results = clauses_tell text listing encodes tree.maxint tree.clauses kinds results

-- ---- Throwable

built_in_known : (more : List ListedClass)
    → list_any (λ (c : ListedClass). bytes_eq c.name throwable)
    (upwards (length (built_in_classes ++ more)) (built_in_classes ++ more) throwable) ≡ true
unfolding class_rows
built_in_known more = refl

pub throwable_known : ListingsKnowThrowable
throwable_known text program encodes =
    let heads : List ListedClass = map (λ (c : LinkedClass). head_of c.file) program.classes in
    let said : List ListedClass = filter_map class_declared encodes.said in
    let is : program.listing.classes ++ heads ≡ built_in_classes ++ (said ++ heads) =
    ap (λ (l : Listing). l.classes ++ heads) encodes.listed ∙ append_assoc built_in_classes said heads in
    ap (λ (cs : List ListedClass). list_any (λ (c : ListedClass). bytes_eq c.name throwable) (upwards (length cs) cs throwable)) is
    ∙ built_in_known (said ++ heads)
