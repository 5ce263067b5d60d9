-- What a linked client names, and begins with: classes of its own and of the listing, and no object of conspec/State.
use Rattle.std.proofs.Common.{
  ◌≡◌,
  ℕ,
  zero,
  suc,
  Bool,
  true,
  false,
  ◌||◌,
  List,
  [],
  ◌∷◌,
  ◌++◌,
  map,
  Option,
  Some,
  None,
  refl,
  sym,
  ap,
  subst,
  ◌∙◌,
  cond,
}
use Rattle.std.specs.Prelude.{bytes_eq, codes, find, slice_get, if◌then◌else◌}
use Rattle.std.specs.List.{AllByRecursion, filter_map, list_any}
use Rattle.std.specs.Option.{option_map_or}
use Rattle.std.proofs.lemmas.Bool.{false≢true}
use Rattle.mon_base.specs.declared.method.MethodId.{MethodId}
use Rattle.class_codec.specs.declared.tree.ClassFile.{ClassFile}
use Rattle.class_codec.specs.declared.tree.Const.{Const}
use Rattle.class_codec.specs.declared.tree.Const.TheVariants as constants
use Rattle.class_codec.specs.declared.tree.Member.{Member}
use Rattle.class_codec.specs.Pool.{utf8_at}
use Rattle.api_listing.specs.declared.types.ListedClass.{ListedClass}
use Rattle.api_listing.specs.Listing.{is_known, own_class}
use Rattle.bytecode_model.specs.declared.program.LinkedClass.{LinkedClass}
use Rattle.bytecode_model.specs.declared.program.Program.{Program}
use Rattle.bytecode_model.specs.declared.program.Side.{Side}
use Rattle.bytecode_model.specs.declared.program.Side.TheVariants as sides
use Rattle.bytecode_model.specs.declared.program.Target.TheVariants as target
use Rattle.bytecode_model.specs.Arrays.{is_array}
use Rattle.bytecode_model.specs.Conditions.{holds, is_free, names_own_class}
use Rattle.bytecode_model.specs.Heads.{desc_of, head_of, is_static}
use Rattle.bytecode_model.specs.Operands.{index_of, place_of}
use Rattle.bytecode_model.specs.SearchOrder.{Name}
use Rattle.bytecode_model.specs.Targets.{TakesClass}
use Rattle.bytecode_model.proofs.Lists.{not_true}
use Rattle.bytecode_model.proofs.Placing.{test_cases}
use Rattle.bytecode_model.proofs.Upwards.{of_same}
use Rattle.guest_heap.specs.declared.value.Value.{Value}
use Rattle.guest_heap.specs.declared.value.Value.TheVariants as values
use Rattle.guest_model.specs.Layout.{
  constant_bytes,
  first_value,
  is_of_references,
  starting_value,
  two_bytes,
  value_of_constant,
  value_told,
}
use Rattle.guest_model.specs.Runs.{first_heap, initialisers, inner, start_of}
use Rattle.guest_model.specs.Throwing.{bare_object}
use Rattle.guest_model.proofs.Insns.{has_insn}
use Rattle.guest_model.proofs.Options.{
  IfThere,
  all_append,
  all_map,
  all_mapped,
  and_then_of,
  if_either,
  if_mapped,
  if_none,
  if_some,
  if_then,
  is_there,
  there_or,
}
use Rattle.guest_erasing.specs.Laid.{IsClientName}
use Rattle.guest_erasing.proofs.Clients.{all_by_place, class_free}
use Rattle.guest_erasing.proofs.Listings.{unknown}
use Rattle.guest_erasing.proofs.Names.{other_name}
use Rattle.typed_runs.specs.Programs.{IsLinkedProgram}
use Rattle.typed_runs.proofs.Declared.{inner_encoded, listed_field}
use Rattle.block_runs.proofs.Clients.Answering.{ListsClients}
use Rattle.block_runs.proofs.Clients.Keeping.{Holds, NamesFree}
use Rattle.block_runs.proofs.Clients.Made.{first_is_value}
use Rattle.block_runs.proofs.Clients.Values.{AreValues, IsNamed, IsValue, ObjectValues, rests_values}

-- ---- lists of classes

none_known : {X : Type 0} (p : X → Bool) (xs ys : List X) → find p (xs ++ ys) ≡ None → list_any p xs ≡ true → ⊥
none_known p [] ys e h = false≢true h
none_known p (x ∷ xs) ys e h = by (p x) e h (none_known p xs ys) where
  by : (b : Bool) → cond b (Some x) (find p (xs ++ ys)) ≡ None → (b || list_any p xs) ≡ true
      → (find p (xs ++ ys) ≡ None → list_any p xs ≡ true → ⊥) → ⊥
  by true f k later = absurd cc
  by false f k later = later f k

known_there : (classes : List ListedClass) (i : ℕ) (c : ListedClass) → slice_get classes i ≡ Some c → is_known classes c.name ≡ true
known_there [] i c e = absurd cc
known_there (x ∷ classes) zero c e =
    let same : x ≡ c = cc in
    ap (λ (b : Bool). b || is_known classes c.name) (of_same x.name c.name (ap (λ (y : ListedClass). y.name) same))
known_there (x ∷ classes) (suc i) c e = by (bytes_eq x.name c.name) (known_there classes i c e) where
  by : (b : Bool) → is_known classes c.name ≡ true → (b || is_known classes c.name) ≡ true
  by true h = refl
  by false h = h

module _ (client : Program) (links : IsLinkedProgram client) (original : links.side ≡ sides.Original) where
  -- ---- names

  pool_free : (own : ℕ) (c : LinkedClass) → slice_get client.classes own ≡ Some c → list_any names_own_class c.file.pool ≡ false
  pool_free own c e =
      not_true (list_any names_own_class c.file.pool)
      (subst (λ (side : Side). is_free side c.file ≡ true) original (links.linked.free own c e))

  pub names_free : NamesFree client
  names_free class method at insn name there =
      let c = and_then_of (λ (c : LinkedClass). slice_get c.methods method) (slice_get client.classes class) there.of there.there in
      let i = has_insn there.of at insn (target.ClassName name) there.is in
      let takes : TakesClass client c.0 insn name = links.linked.named class method at c.0 there.of insn
      (target.ClassName name) c.1 c.2 i.insn_there i.ref_there in
      sym (ap (λ (o : Option (List ℕ)). holds own_class (option_map_or (λ (text : List ℕ). text) o [])) takes.told)
      ∙ class_free c.0.file.pool (index_of insn) (pool_free class c.0 c.1)

  -- a class of the listing is not named as an array
  no_array : (name : Name) → is_known client.listing.classes name ≡ true → is_array name ≡ false
  no_array name known =
      test_cases (is_array name) (λ b. b ≡ false)
      (λ e. absurd (none_known (λ (c : ListedClass). bytes_eq c.name name) client.listing.classes
      (map (λ (c : LinkedClass). head_of c.file) client.classes)
      (links.order.no_arrays name e) known))
      (λ e. refl)

  pub lists_clients : ListsClients client
  lists_clients name known =
      let other : bytes_eq name own_class ≡ false =
      other_name name own_class
      (λ same. false≢true (sym (unknown links.text client.listing links.listed) ∙ ap (is_known client.listing.classes) (sym same)
      ∙ known)) in
      ap (λ (b : Bool). if b then holds own_class name else bytes_eq name own_class) (no_array name known) ∙ other

  pub listed_named : AllByRecursion (λ (c : ListedClass). IsClientName c.name) client.listing.classes
  listed_named =
      all_by_place (λ (c : ListedClass). IsClientName c.name) client.listing.classes
      (λ i c e. lists_clients c.name (known_there client.listing.classes i c e))

  -- ---- static fields

  constant_value_is : (pool : List Const) (desc : List ℕ) (c : Const) → IfThere (IsValue client) (value_of_constant client pool desc c)
  constant_value_is pool desc (constants.Integer n) =
      if_either (IsValue client) (is_of_references desc) _ _ (if_none (IsValue client)) (if_some (IsValue client) (values.Int n) tt)
  constant_value_is pool desc (constants.Str text) =
      if_either (IsValue client) (bytes_eq desc (codes "Ljava/lang/String;")) _ _
      (if_mapped (IsValue client) (λ (t : List ℕ). values.Lit (place_of client.literals t)) (utf8_at pool text) (λ t e. tt))
      (if_none (IsValue client))
  constant_value_is pool desc (constants.Utf8 t) = if_none (IsValue client)
  constant_value_is pool desc (constants.Float bits) = if_none (IsValue client)
  constant_value_is pool desc (constants.Long n) = if_none (IsValue client)
  constant_value_is pool desc (constants.Double bits) = if_none (IsValue client)
  constant_value_is pool desc (constants.Class name) = if_none (IsValue client)
  constant_value_is pool desc (constants.Field class name) = if_none (IsValue client)
  constant_value_is pool desc (constants.Method class name) = if_none (IsValue client)
  constant_value_is pool desc (constants.IMethod class name) = if_none (IsValue client)
  constant_value_is pool desc (constants.NameAndType name desc_at) = if_none (IsValue client)
  constant_value_is pool desc constants.Second = if_none (IsValue client)

  told_is : (file : ClassFile) (member : Member) → IfThere (IsValue client) (value_told client file member)
  told_is file member =
      if_then (IsValue client) _ (slice_get (filter_map (constant_bytes file.pool) member.attrs) 0)
      (λ bytes e. if_then (IsValue client) _ (two_bytes bytes)
      (λ index f. if_then (IsValue client) _ (slice_get file.pool index) (λ c g. constant_value_is file.pool (desc_of file.pool member) c)))

  starting_is : (file : ClassFile) (member : Member) → IsValue client (starting_value client file member)
  starting_is file member =
      let told : Option Value = cond (is_static member.flags) (value_told client file member) None in
      there_or (IsValue client) (λ (v : Value). v) told (first_value (desc_of file.pool member))
      (first_is_value client (desc_of file.pool member))
      (λ v e. is_there (IsValue client) told v
      (if_either (IsValue client) (is_static member.flags) (value_told client file member) None (told_is file member)
      (if_none (IsValue client))) e)

  -- ---- the start

  fields_named : AllByRecursion (λ (f : MethodId). IsClientName (inner f.desc)) client.listing.fields
  fields_named =
      all_by_place (λ (f : MethodId). IsClientName (inner f.desc)) client.listing.fields
      (λ index field there. let f = listed_field links.text client.listing links.listed index field there in
      subst IsClientName (sym (ap inner f.desc ∙ inner_encoded f.class)) (lists_clients f.class f.known))

  first_named : AllByRecursion (IsNamed client) (first_heap client)
  first_named =
      all_append (IsNamed client) _ _
      (all_mapped (λ (f : MethodId). IsClientName (inner f.desc)) (IsNamed client)
      (λ (f : MethodId). bare_object (inner f.desc)) client.listing.fields (λ f name. name)
      fields_named) (refl, tt)

  pub starts_so : Holds client names_free lists_clients (start_of client) []
  starts_so = record {
    world = record {
      holds = record {
        heap = all_append (ObjectValues client) _ _ (all_map (ObjectValues client) _ client.listing.fields (λ f. (tt, tt))) (tt, tt);
        statics =
            all_map (AreValues client) (λ (c : LinkedClass). map (starting_value client c.file) c.file.fields) client.classes
            (λ c. all_map (IsValue client) (starting_value client c.file) c.file.fields (starting_is c.file));
      };
      names = first_named;
    };
    threads = (rests_values client (initialisers client ++ (client.main_class, client.main_method) ∷ []), tt);
  }
