-- The events of a typed program are well formed for a policy that tells the types of its methods.
use Rattle.std.proofs.Common.{◌≡◌, ℕ, ℤ, zero, suc, ◌<◌, true, ◌&&◌, List, [], ◌∷◌, map, Option, Some, None, refl, sym, ap, subst, ◌∙◌, arith}
use Rattle.std.specs.Prelude.{pos, negsuc, ◌-ℤ◌, ◌==◌, int_le, slice_get, option_map, FitsSigned, IfSome}
use Rattle.std.specs.Int.{w32}
use Rattle.std.specs.List.{AllByRecursion}
use Rattle.std.proofs.lemmas.Bool.{and_parts, and_from, eqb-true, le-leb}
use Rattle.std.proofs.lemmas.Option.{slice_get-map}
use Rattle.api_listing.specs.declared.descriptor.Element.{Element}
use Rattle.api_listing.specs.declared.descriptor.Element.TheVariants as elements
use Rattle.api_listing.specs.declared.descriptor.FieldType.{FieldType}
use Rattle.api_listing.specs.declared.events.ApiValue.{ApiValue}
use Rattle.api_listing.specs.declared.events.ApiValue.TheVariants as api
use Rattle.api_listing.specs.declared.events.Event.{Event}
use Rattle.api_listing.specs.declared.events.Event.TheVariants as events
use Rattle.api_listing.specs.declared.types.Listing.{Listing}
use Rattle.bytecode_model.specs.declared.program.Program.{Program}
use Rattle.bytecode_model.specs.Sound.{IsSound}
use Rattle.bytecode_model.specs.LinkedClasses.{AreLiterals}
use Rattle.bytecode_model.specs.Targets.{AreNamed}
use Rattle.bytecode_model.specs.Uses.{UsesAreShaped}
use Rattle.conspec_tree.specs.declared.types.Kind.{Kind}
use Rattle.conspec_tree.specs.declared.types.Kind.TheVariants as kinds
use Rattle.conspec_tree.specs.Kinds.{kind_of, array_kind, element_kind, is_number}
use Rattle.conspec_automaton.specs.declared.policy.Clause.{Clause}
use Rattle.conspec_automaton.specs.declared.policy.Policy.{Policy}
use Rattle.conspec_tree.specs.Kinds.{number_range, passed_range}
use Rattle.conspec_automaton.specs.Events.{IsNumberOf, IsWellFormed}
use Rattle.conspec_automaton.specs.Next.{clause_of, method_of, speaks_of}
use Rattle.conspec_automaton.specs.Range.{is_between}
use Rattle.guest_model.specs.Answers.{is_number_of, fits_number}
use Rattle.guest_model.specs.Calls.{types_of}
use Rattle.guest_model.proofs.Options.{all_get, find_is, map_of}
use Rattle.guest_model.specs.Numbers.{IsWordSeen, IsReturned, IsInRange, SeesInRange, is_of_numbers, is_primitive}
use Rattle.guest_model.specs.Runs.{trace}
use Rattle.typed_runs.specs.Formed.{SeesWellFormed, TellsTypes}
use Rattle.typed_runs.proofs.Calling.Called.{there_and}
use Rattle.typed_runs.proofs.Changed.{ArePassedNumbers, PassesNumbers}
use Rattle.typed_runs.proofs.Calling.CallsOperate.{calls_operate}
use Rattle.typed_runs.proofs.Runs.{runs_pass_numbers}
use Rattle.typed_runs.proofs.Within.{among}

-- ---- numbers

word_between : (n : ℤ) → FitsSigned w32 n → is_between (pos 0 -ℤ pos 2147483648) (pos 2147483647) n ≡ true
word_between (pos m) fits = let lt : m < 2147483648 = fits.sfits in le-leb m 2147483647 (omega arith)
word_between (negsuc m) fits =
    let lt : m < 2147483648 = fits.sfits in and_from (int_le (pos 0 -ℤ pos 2147483648) (negsuc m)) (int_le (negsuc m) (pos 2147483647))
    (le-leb m 2147483647 (omega arith)) refl

-- the numbers of an element are those of its kind
number_between : (t : Element) (n : ℤ) → is_number_of t n ≡ true
    → IfSome (number_range (element_kind t)) (λ (range : ℤ × ℤ). is_between range.0 range.1 n ≡ true)
number_between elements.Boolean n h = h
number_between elements.Byte n h = h
number_between elements.Char n h = h
number_between elements.Short n h = h
number_between elements.Int n h = h
number_between (elements.Class name) n h = tt

answer_between : (t : FieldType) (n : ℤ) → fits_number (Some t) n ≡ true
    → IfSome (number_range (kind_of t)) (λ (range : ℤ × ℤ). is_between range.0 range.1 n ≡ true)
answer_between t n h =
    let a = and_parts (t.dimensions == 0) (is_number_of t.element n) h in
    let none : t.dimensions ≡ 0 = eqb-true t.dimensions 0 a.0 in
    subst (λ (k : Kind). IfSome (number_range k) (λ (range : ℤ × ℤ). is_between range.0 range.1 n ≡ true)) (ap (λ (d : ℕ). array_kind d t.element) (sym none))
    (number_between t.element n a.1)

-- a type of no object is one of numbers
kind_of_numbers : (dimensions : ℕ) (element : Element) → is_number (array_kind dimensions element) ≡ true
    → ((dimensions == 0) && is_primitive element) ≡ true
kind_of_numbers zero elements.Boolean some = refl
kind_of_numbers zero elements.Byte some = refl
kind_of_numbers zero elements.Char some = refl
kind_of_numbers zero elements.Short some = refl
kind_of_numbers zero elements.Int some = refl
kind_of_numbers zero (elements.Class name) some = absurd cc
kind_of_numbers (suc n) element some = absurd cc

of_numbers : (t : FieldType) (kind : Kind) → kind_of t ≡ kind → is_number kind ≡ true → is_of_numbers t ≡ true
of_numbers t kind is some = kind_of_numbers t.dimensions t.element (ap is_number is ∙ some)

-- Where the type is one of numbers, it is a number of 32 bits that is passed.
passed_number : (kind : Kind) (value : Option ApiValue) → (is_number kind ≡ true → IsNumberOf (number_range kinds.Int) value) → IsNumberOf (passed_range kind) value
passed_number kinds.Int value each = each refl
passed_number kinds.Bool value each = each refl
passed_number kinds.Byte value each = each refl
passed_number kinds.Short value each = each refl
passed_number kinds.Char value each = each refl
passed_number kinds.Object value each = tt

-- A number that is given, and in the range of its type.
abbrev GivenNumber : Kind → Option ApiValue → Type 0
GivenNumber kind value = (n : ℤ) × (value ≡ Some (api.Int n)) × IfSome (number_range kind) (λ (range : ℤ × ℤ). is_between range.0 range.1 n ≡ true)

given_number : (kind : Kind) (value : Option ApiValue) → (is_number kind ≡ true → GivenNumber kind value) → IsNumberOf (number_range kind) value
given_number kinds.Int value each = each refl
given_number kinds.Bool value each = each refl
given_number kinds.Byte value each = each refl
given_number kinds.Short value each = each refl
given_number kinds.Char value each = each refl
given_number kinds.Object value each = tt

-- ---- what is passed, and what is given

passed : (types : List FieldType) (args : List Kind) (arguments : List ApiValue) → args ≡ map kind_of types
    → AllByRecursion IsWordSeen arguments → ArePassedNumbers types arguments
    → (i : ℕ) (kind : Kind) → slice_get args i ≡ Some kind → IsNumberOf (passed_range kind) (slice_get arguments i)
passed types args arguments told words numbers i kind e = passed_number kind (slice_get arguments i) (λ some.
    let m = map_of kind_of (slice_get types i) kind (sym (slice_get-map kind_of types i) ∙ ap (λ (ks : List Kind). slice_get ks i) (sym told) ∙ e) in
    let n = numbers i m.0 m.1 (of_numbers m.0 kind m.2 some) in
    (n.0, n.1, word_between n.0 (all_get IsWordSeen arguments i (api.Int n.0) words n.1)))

given : (type : Option FieldType) (result : Option Kind) (value : Option ApiValue) → result ≡ option_map kind_of type
    → IsReturned type value
    → (kind : Kind) → result ≡ Some kind → IsNumberOf (number_range kind) value
given None result value told returned kind e = absurd cc
given (Some t) result value told returned kind e =
    let same : kind_of t ≡ kind = cc in
    subst (λ (k : Kind). IsNumberOf (number_range k) value) same (given_number (kind_of t) value (λ some. let n = returned (of_numbers t (kind_of t) refl some) in (n.0, n.1, answer_between t n.0 n.2)))

-- ---- events

-- The clause that is found is of the method, and tells its types.
pub found : (listing : Listing) (policy : Policy) → AllByRecursion (TellsTypes listing) policy.clauses → (event : Event) (clause : Clause)
    → clause_of policy event ≡ Some clause → TellsTypes listing clause × (clause.method ≡ method_of event)
found listing policy tells event clause e =
    let f = find_is (speaks_of event) policy.clauses clause e in (
      among (TellsTypes listing) policy.clauses clause tells f.0,
      eqb-true clause.method (method_of event) (and_parts (clause.method == method_of event) _ f.1).0,
    )

module _ (program : Program) (policy : Policy) (tells : AllByRecursion (TellsTypes program.listing) policy.clauses) where
  formed : (event : Event) → IsInRange program event → PassesNumbers program event → IsWellFormed policy event
  formed (events.Call thread method arguments) range numbers clause e =
      let f = found program.listing policy tells (events.Call thread method arguments) clause e in
      let l = there_and (slice_get program.listing.methods method) range in
      passed (types_of l.0.id.desc).arguments clause.args arguments (f.0.args l.0 (ap (slice_get program.listing.methods) f.1 ∙ l.1)) l.2.words
      (numbers l.0 l.1)
  formed (events.Return thread method value) range numbers clause e =
      let f = found program.listing policy tells (events.Return thread method value) clause e in
      let l = there_and (slice_get program.listing.methods method) range in
      given (types_of l.0.id.desc).result clause.result value (f.0.result l.0 (ap (slice_get program.listing.methods) f.1 ∙ l.1)) l.2
  formed (events.Except thread method) range numbers clause e = tt

  each_formed : (seen : List Event) → AllByRecursion (IsInRange program) seen → AllByRecursion (PassesNumbers program) seen
      → AllByRecursion (IsWellFormed policy) seen
  each_formed [] range numbers = tt
  each_formed (event ∷ seen) range numbers = (formed event range.0 numbers.0, each_formed seen range.1 numbers.1)

pub sees_well_formed : UsesAreShaped → ((program : Program) → IsSound program → AreNamed program → AreLiterals program → SeesInRange program) → SeesWellFormed
sees_well_formed shaped range program typing policy ok tells steps =
    each_formed program policy tells (trace program steps) (range program ok.links.sound ok.links.linked.named ok.links.linked.literals steps)
    (runs_pass_numbers shaped (λ program typing ok. calls_operate program typing ok shaped) program typing ok steps)
