-- Events that are not well formed for a policy that tells the types of its methods.
use Rattle.std.proofs.Common.{◌≡◌, ℕ, ℤ, ◌≤◌, true, List, map, Option, Some, None, refl, sym, ap, subst, ◌∙◌, arith}
use Rattle.std.specs.Prelude.{pos, ◌-ℤ◌, int_le, is_some, slice_get, option_map}
use Rattle.std.proofs.lemmas.Bool.{and_parts, leb-true}
use Rattle.std.proofs.lemmas.Option.{slice_get-map}
use Rattle.api_listing.specs.declared.descriptor.MethodType.{MethodType}
use Rattle.api_listing.specs.declared.events.ApiValue.{ApiValue}
use Rattle.api_listing.specs.declared.events.ApiValue.TheVariants as api
use Rattle.api_listing.specs.declared.events.Event.{Event}
use Rattle.api_listing.specs.declared.events.Event.TheVariants as events
use Rattle.api_listing.specs.declared.types.Listing.{Listing}
use Rattle.conspec_tree.specs.declared.types.Kind.{Kind}
use Rattle.conspec_tree.specs.declared.types.Kind.TheVariants as kinds
use Rattle.conspec_tree.specs.Kinds.{kind_of}
use Rattle.conspec_automaton.specs.declared.policy.Clause.{Clause}
use Rattle.conspec_automaton.specs.declared.policy.Policy.{Policy}
use Rattle.conspec_tree.specs.Kinds.{number_range}
use Rattle.conspec_automaton.specs.Events.{IsNumberOf}
use Rattle.conspec_automaton.specs.Next.{clause_of}
use Rattle.conspec_automaton.specs.Range.{is_between}
use Rattle.typed_runs.specs.IllFormed.{IsAskedOf, NullIsNoArgument, NullIsNoResult, WideIsNoResult}
use Rattle.typed_runs.proofs.Formed.{found}

-- ---- the clause of such an event

-- It tells the kinds of these types.
record Asks (policy : Policy) (types : MethodType) (event : Event) : Type 0 where
  clause : Clause
  of : clause_of policy event ≡ Some clause
  args : clause.args ≡ map kind_of types.arguments
  result : clause.result ≡ option_map kind_of types.result

asks : (listing : Listing) (policy : Policy) (types : MethodType) (event : Event) → IsAskedOf listing policy types event → Asks policy types event
asks listing policy types event a = by (clause_of policy event) refl a.asked where
  by : (o : Option Clause) → clause_of policy event ≡ o → is_some o ≡ true → Asks policy types event
  by None e some = absurd cc
  by (Some clause) e some =
      let f = found listing policy a.tells event clause e in
      let there = ap (slice_get listing.methods) f.1 ∙ a.there in
      record {
        clause = clause;
        of = e;
        args = f.0.args a.method there ∙ ap (λ (t : MethodType). map kind_of t.arguments) a.typed;
        result = f.0.result a.method there ∙ ap (λ (t : MethodType). option_map kind_of t.result) a.typed;
      }

-- ---- values that are no int

null_is_none : (value : Option ApiValue) → value ≡ Some api.Null → IsNumberOf (number_range kinds.Int) value → ⊥
null_is_none value is number = let same : Some api.Null ≡ Some (api.Int number.0) = sym is ∙ number.1 in absurd cc

wide_is_none : (n : ℕ) → 2147483648 ≤ n → IsNumberOf (number_range kinds.Int) (Some (api.Int (pos n))) → ⊥
wide_is_none n wide number =
    let given : Some (api.Int (pos n)) ≡ Some (api.Int number.0) = number.1 in
    let same : number.0 ≡ pos n = cc in
    let within = subst (λ (m : ℤ). is_between (pos 0 -ℤ pos 2147483648) (pos 2147483647) m ≡ true) same number.2 in
    let below : n ≤ 2147483647 = leb-true n 2147483647 (and_parts (int_le (pos 0 -ℤ pos 2147483648) (pos n)) (int_le (pos n) (pos 2147483647)) within).1 in
    absurd (omega arith)

-- ---- the events

pub null_is_no_result : NullIsNoResult
null_is_no_result listing policy types thread method a int formed =
    let c = asks listing policy types (events.Return thread method (Some api.Null)) a in
    null_is_none (Some api.Null) refl (formed c.clause c.of kinds.Int (c.result ∙ ap (option_map kind_of) int))

pub wide_is_no_result : WideIsNoResult
wide_is_no_result n wide listing policy types thread method a int formed =
    let c = asks listing policy types (events.Return thread method (Some (api.Int (pos n)))) a in
    wide_is_none n wide (formed c.clause c.of kinds.Int (c.result ∙ ap (option_map kind_of) int))

pub null_is_no_argument : NullIsNoArgument
null_is_no_argument listing policy types thread method i arguments a int null formed =
    let c = asks listing policy types (events.Call thread method arguments) a in
    let kind : slice_get c.clause.args i ≡ Some kinds.Int =
    ap (λ (ks : List Kind). slice_get ks i) c.args ∙ slice_get-map kind_of types.arguments i ∙ ap (option_map kind_of) int in
    null_is_none (slice_get arguments i) null (formed c.clause c.of i kinds.Int kind)
