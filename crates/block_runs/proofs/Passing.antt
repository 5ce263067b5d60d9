-- What a call passes and gives, as the policy sees it.
use Rattle.std.proofs.Common.{◌≡◌, ◌∙◌, ℕ, zero, suc, Bool, true, false, cond, List, [], ◌∷◌, ◌++◌, take, drop, length, Option, Some, None, refl, sym, ap, subst}
use Rattle.std.specs.Prelude.{IfSome, nat_le, option_map, option_and_then, reverse, slice_get, ◌+◌}
use Rattle.std.specs.Option.{option_map_or, option_to_list}
use Rattle.std.proofs.lemmas.List.{reverse-reverse, take-append-drop}
use Rattle.std.proofs.lemmas.Option.{cond_some}
use Rattle.api_listing.specs.declared.events.ApiValue.TheVariants as api
use Rattle.api_listing.specs.declared.events.Event.TheVariants as events
use Rattle.bytecode_model.specs.declared.program.Program.{Program}
use Rattle.bytecode_model.specs.Classes.{is_below}
use Rattle.conspec_tree.specs.declared.types.Kind.{Kind}
use Rattle.conspec_automaton.specs.Next as automaton
use Rattle.guest_heap.specs.declared.object.Object.{Object}
use Rattle.guest_heap.specs.declared.object.Object.TheVariants as objects
use Rattle.guest_heap.specs.declared.value.Value.{Value}
use Rattle.guest_heap.specs.declared.value.Value.TheVariants as values
use Rattle.guest_model.specs.Calls.{Taken, taken}
use Rattle.guest_model.specs.Kinds.{string}
use Rattle.guest_model.specs.Parts.{number_in}
use Rattle.guest_model.specs.Seen.{object_shown, value_shown, values_shown}
use Rattle.guest_model.proofs.Options.{map_of}
use Rattle.block_runs.specs.Joining.{GivesKind}
use Rattle.block_runs.specs.Passed.{AreOfKinds, ArePassed, IsGiven}

pub if_some_on : {X : Type 0} (P Q : X → Type 0) (o : Option X) → ((x : X) → P x → Q x) → IfSome o P → IfSome o Q
if_some_on P Q None f h = tt
if_some_on P Q (Some x) f h = f x h

module _ (program : Program) (heap : List Object) where
  object_number : (at : ℕ) (object : Object) → automaton.number_in (object_shown program at object) ≡ None
  object_number at (objects.Plain class fields target thread) = by (is_below program class string)
    where
      by : (b : Bool) → automaton.number_in (cond b (api.Text []) (api.Obj class at)) ≡ None
      by true = refl
      by false = refl
  object_number at (objects.Array desc items) = refl
  object_number at (objects.Text text) = refl

  number_shown : (v : Value) → automaton.number_in (value_shown program heap v) ≡ number_in v
  number_shown (values.Int n) = refl
  number_shown values.Null = refl
  number_shown (values.Ref at) = by (slice_get heap at)
    where
      by : (o : Option Object) → automaton.number_in (option_map_or (object_shown program at) o api.Null) ≡ None
      by None = refl
      by (Some object) = object_number at object
  number_shown (values.Class index) = refl
  number_shown (values.Lit index) = refl

  argument_seen : (arguments : List Value) (i : ℕ)
      → option_and_then automaton.number_in (slice_get (values_shown program heap arguments) i) ≡ option_and_then number_in
      (slice_get arguments i)
  argument_seen [] i = refl
  argument_seen (v ∷ arguments) zero = number_shown v
  argument_seen (v ∷ arguments) (suc i) = argument_seen arguments i

  -- ---- what a call takes from the operands

  front_of : (n : ℕ) (items : List Value) → items ≡ reverse (reverse (take n items)) ++ drop n items
  front_of n items = sym (ap (λ (xs : List Value). xs ++ drop n items) (reverse-reverse (take n items)) ∙ take-append-drop n items)

  taken_front : (static : Bool) (n : ℕ) (items : List Value) (t : Taken) → taken static n items ≡ Some t
      → items ≡ reverse t.arguments ++ drop n items
  taken_front true n items t e =
      let made : Taken = record { receiver = None; arguments = reverse (take n items); beneath = drop n items } in
      let c = cond_some (nat_le n (length items)) made t e in
      subst (λ (x : Taken). items ≡ reverse x.arguments ++ drop n items) c.1 (front_of n items)
  taken_front false n items t e =
      let m = map_of (λ (receiver : Value). record {
        receiver = Some receiver;
        arguments = reverse (take n items);
        beneath = drop
            (n + 1) items;
      })
      (slice_get items n) t e in
      subst (λ (x : Taken). items ≡ reverse x.arguments ++ drop n items) m.2 (front_of n items)

  pub passed_so : (static : Bool) (n : ℕ) (items : List Value) (t : Taken) → taken static n items ≡ Some t → (kinds : List Kind)
      → AreOfKinds kinds t.arguments → (number listed : ℕ)
      → ArePassed kinds (events.Call number listed (values_shown program heap t.arguments)) items
  passed_so static n items t e kinds are number listed = record {
    arguments = t.arguments;
    beneath = drop n items;
    there = taken_front static n items t e;
    of_kinds = are;
    seen = argument_seen t.arguments;
  }

  pub given_of : (kind : Option Kind) (o : Option Value) (rest : List Value) (number listed : ℕ)
      → GivesKind kind (option_map (value_shown program heap) o) (option_to_list o ++ rest)
      → IsGiven kind (events.Return number listed (option_map (value_shown program heap) o)) (option_to_list o ++ rest)
  given_of None o rest number listed h = tt
  given_of (Some kind) None rest number listed h = absurd h
  given_of (Some kind) (Some v) rest number listed h =
      record { value = v; beneath = rest; there = refl; of_kind = h; seen = number_shown v }
