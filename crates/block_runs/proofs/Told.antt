-- What the clauses of a policy ask of an event is there: in the locals, in which a block keeps what was passed or given, and in the
-- policy's variables; and no sum wraps.
use Rattle.std.proofs.Common.{
  ◌≡◌,
  ℕ,
  zero,
  suc,
  ◌+◌,
  ℤ,
  pos,
  ◌+ℤ◌,
  Bool,
  true,
  List,
  [],
  ◌∷◌,
  length,
  Option,
  Some,
  None,
  refl,
  sym,
  ap,
  ◌∙◌,
  subst,
  arith,
  FitsSigned,
}
use Rattle.std.specs.Prelude.{◌==◌, ◌&&◌, ◌≤ℤ◌, find, if◌then◌else◌, option_and_then, slice_get}
use Rattle.std.specs.Int.{w32}
use Rattle.std.specs.List.{AllByRecursion}
use Rattle.std.proofs.lemmas.Int.{ints, int_wrap_fits, wrapping_add_is}
use Rattle.api_listing.specs.declared.events.Event.{Event}
use Rattle.api_listing.specs.declared.events.Event.TheVariants as events
use Rattle.conspec_tree.specs.declared.types.Atom.{Atom}
use Rattle.conspec_tree.specs.declared.types.Base.{Base}
use Rattle.conspec_tree.specs.declared.types.Base.TheVariants as bases
use Rattle.conspec_tree.specs.declared.types.Kind.{Kind}
use Rattle.conspec_tree.specs.declared.types.Kind.TheVariants as kinds
use Rattle.conspec_tree.specs.declared.types.Phase.{Phase}
use Rattle.conspec_tree.specs.declared.types.Phase.TheVariants.{Before, After, Exceptional}
use Rattle.conspec_tree.specs.declared.types.Update.{Update}
use Rattle.conspec_tree.specs.declared.types.Update.TheVariants.{Set, Add}
use Rattle.conspec_tree.specs.declared.types.Var.{Var}
use Rattle.conspec_tree.specs.Kinds.{is_number}
use Rattle.conspec_tree.specs.Tree.{Askable, AreAtoms, IsBase, IsNumber, asked, greatest}
use Rattle.conspec_automaton.specs.declared.policy.Branch.{Branch}
use Rattle.conspec_automaton.specs.declared.policy.Clause.{Clause}
use Rattle.conspec_automaton.specs.declared.policy.Policy.{Policy}
use Rattle.conspec_automaton.specs.Next.{
  Values,
  argument,
  clause_of,
  is_phase_of,
  is_taken,
  method_of,
  moment,
  returned,
  speaks_of,
  updated_once,
}
use Rattle.conspec_automaton.specs.Range.{MayUpdate, in_range, is_between}
use Rattle.conspec_automaton.specs.Sound.{IsBranchIn, IsPolicy}
use Rattle.conspec_automaton.proofs.Ranges.{between_is, found_may, may_go_on, same_length, sum_fits, target_there, value_there}
use Rattle.block_template.specs.Blocks.{clause_at, is_phase}
use Rattle.block_template.specs.Typed.{operand_of}
use Rattle.block_template.proofs.Policies.{IsOf, branches_of_phase}
use Rattle.guest_heap.specs.declared.value.Value.{Value}
use Rattle.guest_heap.specs.declared.value.Value.TheVariants as values
use Rattle.guest_frames.specs.Values.{fits}
use Rattle.guest_model.specs.Parts.{number_in}
use Rattle.block_runs.specs.Passed.{AreOfKinds}
use Rattle.block_runs.proofs.Checks.{AskNumbers, AsksNumber, CanMake, IsPlainSum}
use Rattle.block_runs.proofs.Locals.{HasSaved, saved_at}

-- ---- numbers of the event

-- The value at a local is the number that the policy sees.
abbrev pub TellsNumber : List Value → ℕ → Option ℤ → Type 0
TellsNumber locals slot seen = (n : ℤ) × (slice_get locals slot ≡ Some (values.Int n)) × (seen ≡ Some n)

-- What may be asked of the event stands in locals from the base on.
pub record Told (event : Event) (base : ℕ) (locals : List Value) (askable : Askable) : Type 0 where
  pub arguments : (i : ℕ) → IsNumber (slice_get askable.args i) → TellsNumber locals (base + i) (argument event i)
  pub result : IsNumber askable.result → TellsNumber locals base (returned event)

-- a value of a kind that is a number is one
number_is : (kind : Kind) (v : Value) → is_number kind ≡ true → fits (operand_of kind) v ≡ true → (n : ℤ) × (v ≡ values.Int n)
number_is kinds.Object v number fit = absurd cc
number_is kind (values.Int n) number fit = (n, refl)
number_is kinds.Int values.Null number fit = absurd cc
number_is kinds.Int (values.Ref at) number fit = absurd cc
number_is kinds.Int (values.Class at) number fit = absurd cc
number_is kinds.Int (values.Lit at) number fit = absurd cc
number_is kinds.Bool values.Null number fit = absurd cc
number_is kinds.Bool (values.Ref at) number fit = absurd cc
number_is kinds.Bool (values.Class at) number fit = absurd cc
number_is kinds.Bool (values.Lit at) number fit = absurd cc
number_is kinds.Byte values.Null number fit = absurd cc
number_is kinds.Byte (values.Ref at) number fit = absurd cc
number_is kinds.Byte (values.Class at) number fit = absurd cc
number_is kinds.Byte (values.Lit at) number fit = absurd cc
number_is kinds.Short values.Null number fit = absurd cc
number_is kinds.Short (values.Ref at) number fit = absurd cc
number_is kinds.Short (values.Class at) number fit = absurd cc
number_is kinds.Short (values.Lit at) number fit = absurd cc
number_is kinds.Char values.Null number fit = absurd cc
number_is kinds.Char (values.Ref at) number fit = absurd cc
number_is kinds.Char (values.Class at) number fit = absurd cc
number_is kinds.Char (values.Lit at) number fit = absurd cc

tells : (locals : List Value) (slot : ℕ) (v : Value) (seen : Option ℤ) (kind : Kind) → is_number kind ≡ true
    → fits (operand_of kind) v ≡ true
    → slice_get locals slot ≡ Some v → seen ≡ number_in v → TellsNumber locals slot seen
tells locals slot v seen kind number fit there sees =
    let n = number_is kind v number fit in
    (n.0, there ∙ ap Some n.1, sees ∙ ap number_in n.1)

value_of_kind : (kinds : List Kind) (arguments : List Value) (i : ℕ) (kind : Kind) → AreOfKinds kinds arguments → slice_get kinds i
    ≡ Some kind
    → (v : Value) × (slice_get arguments i ≡ Some v) × (fits (operand_of kind) v ≡ true)
value_of_kind [] arguments i kind are there = absurd cc
value_of_kind (other ∷ kinds) [] i kind are there = absurd are
value_of_kind (other ∷ kinds) (v ∷ arguments) zero kind are there =
    let same : other ≡ kind = cc in
    (v, refl, subst (λ (k : Kind). fits (operand_of k) v ≡ true) same are.0)
value_of_kind (other ∷ kinds) (v ∷ arguments) (suc i) kind are there = value_of_kind kinds arguments i kind are.1 there

-- What was passed is kept.
pub arguments_told : (event : Event) (slot base : ℕ) (kinds : List Kind) (result : Option Kind) (arguments locals : List Value)
    → slot ≡ base → AreOfKinds kinds arguments
    → HasSaved slot arguments locals → ((i : ℕ) → argument event i ≡ option_and_then number_in (slice_get arguments i))
    → Told event base locals (asked Before kinds result)
arguments_told event slot base kinds result arguments locals same are has seen =
    record { arguments = λ i number. by i (slice_get kinds i) refl number; result = λ number. absurd number }
  where
    by : (i : ℕ) (o : Option Kind) → slice_get kinds i ≡ o → IsNumber o → TellsNumber locals (base + i) (argument event i)
    by i None there number = absurd number
    by i (Some kind) there number =
        let v = value_of_kind kinds arguments i kind are there in
        tells locals (base + i) v.0 (argument event i) kind number v.2
        (ap (λ (k : ℕ). slice_get locals (k + i)) (sym same) ∙ saved_at slot i arguments locals v.0 has v.1)
        (seen i ∙ ap (option_and_then number_in) v.1)

nothing_asked : {X : Type 0} (i : ℕ) → IsNumber (slice_get [] i) → X
nothing_asked zero number = absurd number
nothing_asked (suc i) number = absurd number

-- What was given is kept.
pub result_told : (event : Event) (base : ℕ) (kinds : List Kind) (kind : Kind) (v : Value) (locals : List Value)
    → fits (operand_of kind) v ≡ true
    → slice_get locals base ≡ Some v → returned event ≡ number_in v → Told event base locals (asked After kinds (Some kind))
result_told event base kinds kind v locals fit there seen = record {
  arguments = λ i number. nothing_asked i number;
  result = λ number. tells locals base v (returned event) kind number fit there seen;
}

pub none_told : (event : Event) (base : ℕ) (kinds : List Kind) (locals : List Value) → Told event base locals (asked After kinds None)
none_told event base kinds locals = record { arguments = λ i number. nothing_asked i number; result = λ number. absurd number }

pub thrown_told : (event : Event) (base : ℕ) (kinds : List Kind) (result : Option Kind) (locals : List Value)
    → Told event base locals (asked Exceptional kinds result)
thrown_told event base kinds result locals = record { arguments = λ i number. nothing_asked i number; result = λ number. absurd number }

-- ---- atoms

module _ (event : Event) (now : Values) (base : ℕ) (locals : List Value) (askable : Askable) (told : Told event base locals askable) where
  base_asks : (vars : ℕ) (b : Base) → length now ≡ vars → IsBase vars askable b → AsksNumber event now base locals b
  base_asks vars (bases.Var i) count is = omega (arith, count, is)
  base_asks vars (bases.Arg i) count is = told.arguments i is
  base_asks vars bases.Result count is = told.result is

  atoms_ask : (vars : ℕ) (atoms : List Atom) → length now ≡ vars → AreAtoms vars askable atoms
      → AllByRecursion (λ (a : Atom). AsksNumber event now base locals a.base) atoms
  atoms_ask vars [] count are = tt
  atoms_ask vars (atom ∷ atoms) count are = (base_asks vars atom.base count are.0, atoms_ask vars atoms count are.1)

  pub branches_ask : (vars : List Var) (maxint : ℤ) (list : List Branch) → length now ≡ length vars
      → AllByRecursion (IsBranchIn vars maxint askable) list
      → AskNumbers event now base locals list
  branches_ask vars maxint [] count are = tt
  branches_ask vars maxint (branch ∷ list) count are =
      (atoms_ask (length vars) branch.atoms count are.0.atoms, branches_ask vars maxint list count are.1)

-- ---- updates

module _ (event : Event) (vars : List Var) (maxint : ℤ) (high : maxint ≤ℤ pos 1000000000) where
  plain_sum : (now : Values) (u : Update) (updates : List Update) → MayUpdate vars maxint (moment now event) (u ∷ updates)
      → IsPlainSum now u
  plain_sum now (Set var value) updates may = tt
  plain_sum now (Add var by) updates may = λ n there.
      let at = value_there maxint vars now var may.each.0.variable may.ranged may.each.0.there in
      let same : at.value ≡ n = let e : Some at.value ≡ Some n = sym at.there ∙ there in cc in
      let ranged : is_between (pos 0) maxint n ≡ true =
      subst (λ (m : ℤ). is_between (pos 0) maxint m ≡ true) same
      (subst (λ (b : Bool). is_between (pos 0) (greatest maxint b) at.value ≡ true) may.each.0.fits.0 at.ranged) in
      let within = between_is (pos 0) maxint n ranged in
      let least = may.each.0.fits.1.0 in
      let most = may.each.0.fits.1.1 in
      let first : FitsSigned w32 n = omega (arith, ints, within.least, within.most, high) in
      let second : FitsSigned w32 by = omega (arith, ints, least, most) in
      wrapping_add_is w32 n by first second ∙ int_wrap_fits w32 (n +ℤ by) (sum_fits event vars maxint now
      (Add var by) updates high may n there)

  pub may_can : (now : Values) (updates : List Update) → MayUpdate vars maxint (moment now event) updates → CanMake event now updates
  may_can now [] may = tt
  may_can now (u ∷ updates) may = (
    target_there event vars maxint now u updates may,
    plain_sum now u updates may,
    may_can (updated_once (moment now event) u) updates (may_go_on event vars maxint now u updates may),
  )

-- ---- a clause

-- What its atoms ask is there, and the updates of the branch that is taken can be made.
pub record CanCheck (event : Event) (now : Values) (base : ℕ) (locals : List Value) (clause : Clause) : Type 0 where
  pub asks : AskNumbers event now base locals clause.branches
  pub makes : (branch : Branch) → find (is_taken (moment now event)) clause.branches ≡ Some branch → CanMake event now branch.updates

pub can_check : (policy : Policy) (phase : Phase) (clause : Clause) (event : Event) (now : Values) (base : ℕ) (locals : List Value)
    → IsPolicy policy
    → IsOf policy phase clause → in_range policy now ≡ true → Told event base locals (asked phase clause.args clause.result)
    → CanCheck event now base locals clause
can_check policy phase clause event now base locals sound is ranged told = record {
  asks = branches_ask event now base locals (asked phase clause.args clause.result) told policy.vars policy.maxint clause.branches
      (same_length policy.maxint policy.vars now ranged) (branches_of_phase policy phase clause is);
  makes = λ branch found. may_can event policy.vars policy.maxint sound.maxint_high now branch.updates
      (found_may policy clause now event branch sound is.fits ranged found);
}

-- ---- the clause of an event

find_same : {X : Type 0} (p q : X → Bool) (xs : List X) → ((x : X) → p x ≡ q x) → find p xs ≡ find q xs
find_same p q [] same = refl
find_same {X = X} p q (x ∷ xs) same =
    ap (λ (b : Bool). if b then Some x else find p xs) (same x) ∙ ap (λ (o : Option X). if q x then Some x else o) (find_same p q xs same)

same_phase : (event : Event) (phase other : Phase) → is_phase_of event phase ≡ true → is_phase_of event other ≡ is_phase phase other
same_phase (events.Call thread method arguments) Before Before is = refl
same_phase (events.Call thread method arguments) Before After is = refl
same_phase (events.Call thread method arguments) Before Exceptional is = refl
same_phase (events.Call thread method arguments) After other is = absurd cc
same_phase (events.Call thread method arguments) Exceptional other is = absurd cc
same_phase (events.Return thread method value) Before other is = absurd cc
same_phase (events.Return thread method value) After Before is = refl
same_phase (events.Return thread method value) After After is = refl
same_phase (events.Return thread method value) After Exceptional is = refl
same_phase (events.Return thread method value) Exceptional other is = absurd cc
same_phase (events.Except thread method) Before other is = absurd cc
same_phase (events.Except thread method) After other is = absurd cc
same_phase (events.Except thread method) Exceptional Before is = refl
same_phase (events.Except thread method) Exceptional After is = refl
same_phase (events.Except thread method) Exceptional Exceptional is = refl

pub clause_is_of : (policy : Policy) (method : ℕ) (phase : Phase) (event : Event) → method_of event ≡ method
    → is_phase_of event phase ≡ true
    → clause_of policy event ≡ clause_at policy method phase
clause_is_of policy method phase event of is =
    find_same (speaks_of event) (λ (c : Clause). (c.method == method) && is_phase phase c.phase) policy.clauses
    (λ c. ap (λ (m : ℕ). (c.method == m) && is_phase_of event c.phase) of
    ∙ ap (λ (b : Bool). (c.method == method) && b) (same_phase event phase c.phase is))
