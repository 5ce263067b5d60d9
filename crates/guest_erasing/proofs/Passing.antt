-- What calls pass, and what the library sees of it.
use Rattle.std.proofs.Common.{◌≡◌, ℕ, ◌+◌, ◌<◌, ◌≤◌, Bool, true, false, List, [], ◌∷◌, length, take, drop, Option, Some, None, refl, ap, subst, arith}
use Rattle.std.specs.Prelude.{IfSome, nat_le, reverse, slice_get}
use Rattle.std.specs.List.{AllByRecursion}
use Rattle.std.specs.Option.{option_map_or}
use Rattle.std.proofs.lemmas.Bool.{leb-true}
use Rattle.std.proofs.lemmas.List.{length-reverse, length-take}
use Rattle.std.proofs.lemmas.Option.{cond_some}
use Rattle.api_listing.specs.declared.events.ApiValue.TheVariants as api
use Rattle.bytecode_model.specs.declared.program.Method.{Method}
use Rattle.bytecode_model.specs.declared.program.Program.{Program}
use Rattle.guest_heap.specs.declared.object.Object.{Object}
use Rattle.guest_heap.specs.declared.object.Object.TheVariants as objects
use Rattle.guest_heap.specs.declared.value.Value.{Value}
use Rattle.guest_heap.specs.declared.value.Value.TheVariants as values
use Rattle.guest_model.specs.Calls.{Taken, taken}
use Rattle.guest_model.specs.Kinds.{class_of_object}
use Rattle.guest_model.specs.Seen.{literal_at, object_shown, string_of, value_shown, values_shown}
use Rattle.guest_model.proofs.Options.{all_get, all_reverse, all_take, map_of}
use Rattle.guest_erasing.specs.Laid.{IsClientName, TellAlike}
use Rattle.guest_erasing.specs.Mirrors.{IsClientValue}
use Rattle.guest_erasing.specs.Places.{Sites}
use Rattle.guest_erasing.proofs.Lists.{get_within}
use Rattle.guest_erasing.proofs.Operating.{AreClients}

pub there_is : {A : Type 0} (P : A → Type 0) (o : Option A) (x : A) → IfSome o P → o ≡ Some x → P x
there_is P None x h e = absurd cc
there_is {A = A} P (Some y) x h e = let same : y ≡ x = cc in subst P same h

-- ---- what a call takes

-- What it passes is of the client, and there are so many arguments.
pub record Passes (client : Program) (n : ℕ) (t : Taken) : Type 0 where
  pub receiver : IfSome t.receiver (IsClientValue client)
  pub arguments : AllByRecursion (IsClientValue client) t.arguments
  pub many : length t.arguments ≡ n

many_passed : (n : ℕ) (stack : List Value) → n ≤ length stack → length (reverse (take n stack)) ≡ n
many_passed n stack h = simp (length-reverse, length-take) (omega (arith, h))

module _ (client : Program) where
  pub taken_passes : (static : Bool) (n : ℕ) (stack : List Value) → AllByRecursion (IsClientValue client) stack → (t : Taken)
      → taken static n stack ≡ Some t → Passes client n t
  taken_passes true n stack all t e =
      let made : Taken = record { receiver = None; arguments = reverse (take n stack); beneath = drop n stack } in
      let c = cond_some (nat_le n (length stack)) made t e in
      subst (Passes client n) c.1
      (record {
        receiver = tt;
        arguments = all_reverse (IsClientValue client) (take n stack) (all_take (IsClientValue client) n stack all);
        many = many_passed n stack (leb-true n (length stack) c.0);
      })
  taken_passes false n stack all t e =
      let m = map_of (λ (receiver : Value).
      record { receiver = Some receiver; arguments = reverse (take n stack); beneath = drop (n + 1) stack }) (slice_get stack n) t e in
      let l : n < length stack = get_within stack n m.0 m.1 in
      subst (Passes client n) m.2
      (record {
        receiver = all_get (IsClientValue client) stack n m.0 all m.1;
        arguments = all_reverse (IsClientValue client) (take n stack) (all_take (IsClientValue client) n stack all);
        many = many_passed n stack (omega arith);
      })

-- ---- what is seen

module _ (sites_of : Method → Sites) (client woven : Program) (tell : TellAlike sites_of client woven) where
  literal_alike : (index : ℕ) → literal_at woven index ≡ literal_at client index
  literal_alike index = ap (λ (ls : List (List ℕ)). option_map_or (λ (t : List ℕ). t) (slice_get ls index) []) tell.literals

  pub string_alike : (heap : List Object) (v : Value) → string_of woven heap v ≡ string_of client heap v
  string_alike heap (values.Int n) = refl
  string_alike heap values.Null = refl
  string_alike heap (values.Ref at) = refl
  string_alike heap (values.Class index) = refl
  string_alike heap (values.Lit index) = literal_alike index

  object_alike : (at : ℕ) (object : Object) → IsClientName (class_of_object object)
      → object_shown woven at object ≡ object_shown client at object
  object_alike at (objects.Plain class fields target thread) own = rw (tell.below class _ own) refl
  object_alike at (objects.Array desc items) own = refl
  object_alike at (objects.Text text) own = refl

  shown_by : (at : ℕ) (o : Option Object) → ((object : Object) → o ≡ Some object → IsClientName (class_of_object object))
      → option_map_or (object_shown woven at) o api.Null ≡ option_map_or (object_shown client at) o api.Null
  shown_by at None own = refl
  shown_by at (Some object) own = object_alike at object (own object refl)

  pub shown_alike : (heap : List Object) → AreClients heap → (v : Value) → IsClientValue client v
      → value_shown woven heap v ≡ value_shown client heap v
  shown_alike heap all (values.Int n) own = refl
  shown_alike heap all values.Null own = refl
  shown_alike heap all (values.Ref at) own =
      shown_by at (slice_get heap at) (λ object e. all_get (λ (o : Object). IsClientName (class_of_object o)) heap at object all e)
  shown_alike heap all (values.Class index) own = ap api.Class (tell.names index own)
  shown_alike heap all (values.Lit index) own = ap api.Text (literal_alike index)

  pub all_shown_alike : (heap : List Object) → AreClients heap → (vs : List Value) → AllByRecursion (IsClientValue client) vs
      → values_shown woven heap vs ≡ values_shown client heap vs
  all_shown_alike heap all [] own = refl
  all_shown_alike heap all (v ∷ vs) own = rw (shown_alike heap all v own.0, all_shown_alike heap all vs own.1) refl
