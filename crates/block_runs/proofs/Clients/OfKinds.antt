-- What a typed client passes in a call of the library, and what it is given, is of the kinds that the clauses of a policy tell.
use Rattle.std.proofs.Common.{◌≡◌, ◌∙◌, ℕ, zero, suc, true, List, [], ◌∷◌, ◌++◌, map, replicate, Option, Some, None, refl, sym, ap, subst}
use Rattle.std.specs.Prelude.{◌==◌, ◌&&◌, IfSome, is_ok, option_map, slice_get}
use Rattle.std.specs.List.{AllByRecursion}
use Rattle.std.specs.Option.{option_to_list}
use Rattle.std.proofs.lemmas.Bool.{and_parts, eqb-true}
use Rattle.api_listing.specs.declared.descriptor.Element.{Element}
use Rattle.api_listing.specs.declared.descriptor.Element.TheVariants as elements
use Rattle.api_listing.specs.declared.descriptor.FieldType.{FieldType}
use Rattle.api_listing.specs.declared.descriptor.MethodType.{MethodType}
use Rattle.api_listing.specs.declared.types.ListedMethod.{ListedMethod}
use Rattle.api_listing.specs.declared.types.Listing.{Listing}
use Rattle.api_listing.specs.Descriptor.{element_encoded, method_type, type_encoded}
use Rattle.cert_format.specs.declared.typing.Typing.{Typing}
use Rattle.cert_format.specs.declared.typing.VType.TheVariants as types
use Rattle.bytecode_model.specs.declared.program.Program.{Program}
use Rattle.bytecode_model.specs.Described.{arguments, type_described}
use Rattle.bytecode_model.specs.SearchOrder.{Name}
use Rattle.conspec_tree.specs.declared.types.Kind.{Kind}
use Rattle.conspec_tree.specs.declared.types.Phase.{Phase}
use Rattle.conspec_tree.specs.declared.types.Phase.TheVariants.{Before, After}
use Rattle.conspec_tree.specs.Kinds.{array_kind, kind_of}
use Rattle.conspec_automaton.specs.declared.policy.Clause.{Clause}
use Rattle.conspec_automaton.specs.declared.policy.Policy.{Policy}
use Rattle.block_template.specs.Blocks.{clause_at, is_phase}
use Rattle.block_template.specs.Typed.{operand_of}
use Rattle.frame_types.proofs.Descriptors.{read_so}
use Rattle.guest_heap.specs.declared.object.Object.{Object}
use Rattle.guest_heap.specs.declared.value.Value.{Value}
use Rattle.guest_heap.specs.declared.value.Value.TheVariants as values
use Rattle.guest_frames.specs.Values.{fits, is_reference}
use Rattle.guest_model.specs.Calls.{types_of, types_read}
use Rattle.guest_model.specs.Seen.{value_shown}
use Rattle.guest_model.proofs.Options.{find_is}
use Rattle.typed_runs.specs.Fitting.{fits_made}
use Rattle.typed_runs.specs.Formed.{TellsTypes}
use Rattle.typed_runs.specs.Programs.{IsTypedProgram}
use Rattle.typed_runs.proofs.Answering.{type_given}
use Rattle.typed_runs.proofs.Calling.Passed.{Arguments, read_type}
use Rattle.typed_runs.proofs.Calling.Returning.{ResultFits}
use Rattle.typed_runs.proofs.Within.{among}
use Rattle.block_runs.specs.Joining.{GivesKind}
use Rattle.block_runs.specs.Passed.{AreOfKinds}

-- ---- clauses

-- The clause that is asked is of the method, and tells its types.
clause_tells : (listing : Listing) (policy : Policy) → AllByRecursion (TellsTypes listing) policy.clauses
    → (method : ℕ) (phase : Phase) (clause : Clause)
    → clause_at policy method phase ≡ Some clause → TellsTypes listing clause × (clause.method ≡ method)
clause_tells listing policy tells method phase clause e =
    let f = find_is (λ (c : Clause). (c.method == method) && is_phase phase c.phase) policy.clauses clause e in (
      among (TellsTypes listing) policy.clauses clause tells f.0,
      eqb-true clause.method method (and_parts (clause.method == method) (is_phase phase clause.phase) f.1).0,
    )

-- ---- values of types

module _ (program : Program) (heap : List Object) where
  reference_fits : (name : Name) (v : Value) → fits_made program heap v (types.Ref name) ≡ true → is_reference v ≡ true
  reference_fits name (values.Int n) h = absurd cc
  reference_fits name values.Null h = refl
  reference_fits name (values.Ref at) h = refl
  reference_fits name (values.Class index) h = refl
  reference_fits name (values.Lit index) h = refl

  encoded_kind : (dimensions : ℕ) (element : Element) (v : Value)
      → fits_made program heap v (type_described (replicate dimensions 91 ++ element_encoded element)) ≡ true
      → fits (operand_of (array_kind dimensions element)) v ≡ true
  encoded_kind zero elements.Boolean v h = h
  encoded_kind zero elements.Byte v h = h
  encoded_kind zero elements.Char v h = h
  encoded_kind zero elements.Short v h = h
  encoded_kind zero elements.Int v h = h
  encoded_kind zero (elements.Class name) v h = reference_fits _ v h
  encoded_kind (suc n) element v h = reference_fits _ v h

  type_kind : (t : FieldType) (v : Value) → fits_made program heap v (type_described (type_encoded t)) ≡ true
      → fits (operand_of (kind_of t)) v ≡ true
  type_kind t v h = encoded_kind t.dimensions t.element v h

module _ (program : Program) (typing : Typing) (ok : IsTypedProgram program typing) (heap : List Object) where
  all_kinds : (ts : List FieldType) (vs : List Value) → Arguments program typing ok heap vs (map type_encoded ts)
      → AreOfKinds (map kind_of ts) vs
  all_kinds [] [] p = tt
  all_kinds [] (v ∷ vs) p = absurd p
  all_kinds (t ∷ ts) [] p = absurd p
  all_kinds (t ∷ ts) (v ∷ vs) p = (type_kind program heap t v p.0, all_kinds ts vs p.1)

  arguments_kinds : (desc : Name) (vs : List Value) → is_ok (method_type desc) ≡ true → Arguments program typing ok heap vs (arguments desc)
      → AreOfKinds (map kind_of (types_of desc).arguments) vs
  arguments_kinds desc vs e p =
      let m = read_type (method_type desc) e in
      subst (λ (types : MethodType). AreOfKinds (map kind_of types.arguments) vs) (sym (ap types_read m.1))
      (all_kinds m.0.arguments vs (subst (λ (ds : List Name). Arguments program typing ok heap vs ds) (read_so desc m.0 m.1).0 p))

-- ---- what clauses ask

module _ (program : Program) (typing : Typing) (ok : IsTypedProgram program typing) (policy : Policy)
    (tells : AllByRecursion (TellsTypes program.listing) policy.clauses) (heap : List Object) (method : ℕ) (listed : ListedMethod)
    (there : slice_get program.listing.methods method ≡ Some listed) where
  told_by : (phase : Phase) (clause : Clause) → clause_at policy method phase ≡ Some clause → TellsTypes program.listing clause
      × (slice_get program.listing.methods clause.method ≡ Some listed)
  told_by phase clause is =
      let t = clause_tells program.listing policy tells method phase clause is in
      (t.0, ap (slice_get program.listing.methods) t.1 ∙ there)

  pub are_passed : (passed : List Value) → is_ok (method_type listed.id.desc) ≡ true
      → Arguments program typing ok heap passed (arguments listed.id.desc)
      → IfSome (clause_at policy method Before) (λ c. AreOfKinds c.args passed)
  are_passed passed good args = by (clause_at policy method Before) refl
    where
      by : (o : Option Clause) → clause_at policy method Before ≡ o → IfSome o (λ c. AreOfKinds c.args passed)
      by None is = tt
      by (Some clause) is =
          let t = told_by Before clause is in
          subst (λ (kinds : List Kind). AreOfKinds kinds passed) (sym (t.0.args listed t.1))
          (arguments_kinds program typing ok heap listed.id.desc passed good args)

  given_by : (items : List Value) (type : Option FieldType) (result : Option Value) → ResultFits program heap (type_given type) result
      → GivesKind (option_map kind_of type) (option_map (value_shown program heap) result) (option_to_list result ++ items)
  given_by items None result fit = tt
  given_by items (Some t) None fit = absurd fit
  given_by items (Some t) (Some v) fit = type_kind program heap t v fit

  pub is_given : (items : List Value) (result : Option Value) → ResultFits program heap (type_given (types_of listed.id.desc).result) result
      → IfSome (clause_at policy method After)
      (λ c. GivesKind c.result (option_map (value_shown program heap) result) (option_to_list result ++ items))
  is_given items result fit = by (clause_at policy method After) refl
    where
      by : (o : Option Clause) → clause_at policy method After ≡ o
          → IfSome o (λ c. GivesKind c.result (option_map (value_shown program heap) result) (option_to_list result ++ items))
      by None is = tt
      by (Some clause) is =
          let t = told_by After clause is in
          subst (λ (kind : Option Kind). GivesKind kind (option_map (value_shown program heap) result) (option_to_list result ++ items))
          (sym (t.0.result listed t.1)) (given_by items (types_of listed.id.desc).result result fit)
