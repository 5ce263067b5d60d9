-- What an instruction of a check pushes: the lock, a number, an argument or the result of the event, or a variable.
use Rattle.std.proofs.Common.{◌≡◌, ℕ, ◌≤◌, ◌+◌, ◌-◌, ℤ, Bool, true, false, cond, List, ◌∷◌, length, Option, Some, None, refl, sym, ap, ◌∙◌, subst, arith, inl, inr, eqb-true, leb-true}
use Rattle.std.specs.Prelude.{◌==◌, ◌&&◌, ◌⊎◌, nat_le, option_and_then, option_map, slice_get}
use Rattle.std.specs.Option.{option_map_or, option_or}
use Rattle.std.proofs.lemmas.Bool.{and_parts, cases_Bool}
use Rattle.std.proofs.lemmas.Option.{cond_some}
use Rattle.std.proofs.lemmas.Slice.Eq.{bytes_eq-Decides}
use Rattle.api_listing.specs.declared.events.Event.{Event}
use Rattle.insn_codec.specs.declared.insn.Insn.{Insn}
use Rattle.insn_codec.specs.declared.shape.Heap.TheVariants as heap
use Rattle.insn_codec.specs.declared.shape.ValueKind.TheVariants as shape_kinds
use Rattle.insn_codec.specs.declared.shape.Shape.{Shape}
use Rattle.insn_codec.specs.declared.shape.Shape.TheVariants as shapes
use Rattle.insn_codec.specs.Shapes.{shape_of}
use Rattle.insn_codec.specs.Table.{ends}
use Rattle.bytecode_model.specs.declared.program.Program.{Program}
use Rattle.bytecode_model.specs.declared.program.Target.{Target}
use Rattle.bytecode_model.specs.declared.program.Target.TheVariants as target
use Rattle.bytecode_model.specs.Classes.{classes_of}
use Rattle.block_logic.specs.Annotations.{Annotations}
use Rattle.cert_format.specs.declared.note.Phase8.{Phase8}
use Rattle.cert_format.specs.declared.note.Phase8.TheVariants.{Before, After, Exceptional}
use Rattle.cert_format.specs.declared.note.Site.{Site}
use Rattle.cert_format.specs.declared.note.Term.{Term}
use Rattle.cert_format.specs.declared.note.Term.TheVariants as terms
use Rattle.conspec_tree.specs.declared.types.Kind.{Kind}
use Rattle.conspec_automaton.specs.declared.policy.Clause.{Clause}
use Rattle.conspec_automaton.specs.declared.policy.Policy.{Policy}
use Rattle.conspec_automaton.specs.Next.{Values, argument, returned}
use Rattle.guest_heap.specs.declared.value.Value.{Value}
use Rattle.guest_heap.specs.declared.value.Value.TheVariants as values
use Rattle.guest_frames.specs.Values.{fits}
use Rattle.guest_model.specs.declared.machine.Machine.{Machine}
use Rattle.guest_model.specs.Changes.{Change, world_of}
use Rattle.guest_model.specs.Parts.{constant_value, number_in}
use Rattle.guest_model.specs.Places.{class_index}
use Rattle.guest_model.specs.Stepping.{Acting, insn_stepped}
use Rattle.guest_model.proofs.Options.{and_then_of, map_of, some_is}
use Rattle.block_logic.specs.Accepted.{rules_of}
use Rattle.block_logic.specs.Fitting.{state_of}
use Rattle.block_logic.specs.Meaning.{AreTerms, TellsArguments, TellsIn, TellsOne, TellsResult, lock_of, term_value}
use Rattle.block_logic.specs.Operands.{loaded_number, number_named, number_pushed, pushes_state, reads_static, state_name, variable_named}
use Rattle.block_logic.specs.Rows.{Rules, argument_in, field_term, local_term, result_in, term_pushed}
use Rattle.block_logic.specs.Weakening.{is_after, is_before}
use Rattle.block_logic.proofs.Owner.Moves.{Following, loads, pushes_constant, pushes_number, reads_variable}
use Rattle.block_logic.proofs.Owner.Terms.{term_at}
use Rattle.conspec_tree.specs.Kinds.{is_number}

-- ---- shapes and operands

either_option : {X : Type 0} (o p : Option X) (x : X) → option_or o p ≡ Some x → (o ≡ Some x) ⊎ (p ≡ Some x)
either_option None p x e = inr e
either_option (Some y) p x e = inl e

-- the class of the lock is named
state_pushed : (shape : Shape) (ref : Target) → pushes_state shape ref ≡ true → (shape ≡ shapes.Heap heap.Constant) × (ref ≡ target.ClassName state_name)
state_pushed (shapes.Heap heap.Constant) (target.ClassName name) e = (refl, ap target.ClassName ((bytes_eq-Decides name state_name).0 e))
state_pushed shape ref e = absurd cc

number_named_is : (ref : Target) (n : ℤ) → number_named ref ≡ Some n → ref ≡ target.Number n
number_named_is (target.Number m) n e = let same : m ≡ n = cc in ap target.Number same
number_named_is ref n e = absurd cc

number_is : (shape : Shape) (ref : Target) (n : ℤ) → number_pushed shape ref ≡ Some n
    → (shape ≡ shapes.Push n) ⊎ ((shape ≡ shapes.Heap heap.Constant) × (ref ≡ target.Number n))
number_is (shapes.Push m) ref n e = let same : m ≡ n = cc in inl (ap shapes.Push same)
number_is (shapes.Heap heap.Constant) ref n e = inr (refl, number_named_is ref n e)
number_is shape ref n e = absurd cc

loaded_is : (shape : Shape) (slot : ℕ) → loaded_number shape ≡ Some slot → shape ≡ shapes.Load shape_kinds.Int slot
loaded_is (shapes.Load shape_kinds.Int place) slot e = let same : place ≡ slot = cc in ap (shapes.Load shape_kinds.Int) same
loaded_is shape slot e = absurd cc

reads_is : (shape : Shape) → reads_static shape ≡ true → shape ≡ shapes.Heap heap.ReadStatic
reads_is (shapes.Heap heap.ReadStatic) e = refl
reads_is shape e = absurd cc

pub variable_is_named : (state : ℕ) (ref : Target) (var : ℕ) → variable_named state ref ≡ Some var → ref ≡ target.Field state var
variable_is_named state (target.Field class field) var e =
    let c = cond_some (class == state) field var e in
    let classes : class ≡ state = eqb-true class state c.0 in
    rw (classes, c.1) refl
variable_is_named state ref var e = absurd cc

-- ---- numbers

number_known : (v : Value) (o : Option ℤ) → fits shape_kinds.Int v ≡ true → number_in v ≡ o → option_map values.Int o ≡ Some v
number_known (values.Int n) o e is = rw (← is) refl
number_known v o e is = absurd cc

passing : {X : Type 0} (test : X → Bool) (o : Option X) → option_map_or test o false ≡ true → (x : X) × (o ≡ Some x)
passing test None e = absurd cc
passing test (Some x) e = (x, refl)

-- ---- what locals hold

module _ (program : Program) (clause : Clause) (base : ℕ) (locals : List Value) (state : Values) (event : Event) (strict : Bool) (slot : ℕ) (v : Value)
    (there : slice_get locals slot ≡ Some v) (number : fits shape_kinds.Int v ≡ true) where
  known : (o : Option ℤ) → option_and_then number_in (slice_get locals slot) ≡ o → option_map values.Int o ≡ Some v
  known o is = let here : number_in v ≡ o = rw there at is in number_known v o number here

  argument_told : (t : Term) → TellsArguments strict base clause.args locals event → argument_in clause base slot ≡ Some t → term_value program state event t ≡ Some v
  argument_told t told e =
      let c = cond_some (nat_le base slot && option_map_or is_number (slice_get clause.args (slot - base)) false) (terms.Arg (slot - base)) t e in
      let p = and_parts (nat_le base slot) (option_map_or is_number (slice_get clause.args (slot - base)) false) c.0 in
      let kind = passing is_number (slice_get clause.args (slot - base)) p.1 in
      let low : base ≤ slot = leb-true base slot p.0 in
      let place : base + (slot - base) ≡ slot = omega arith in
      let here : option_and_then number_in (slice_get locals slot) ≡ argument event (slot - base) =
      subst (λ (n : ℕ). option_and_then number_in (slice_get locals n) ≡ argument event (slot - base)) place (exactly kind.0 place (told.each (slot - base) kind.0 kind.1)) in
      rw (← c.1) (known (argument event (slot - base)) here)
    where
      exactly : (kind : Kind) → base + (slot - base) ≡ slot → TellsOne strict kind (option_and_then number_in (slice_get locals (base + (slot - base)))) (argument event (slot - base))
          → option_and_then number_in (slice_get locals (base + (slot - base))) ≡ argument event (slot - base)
      exactly kind place (inl same) = same
      exactly kind place (inr other) =
          let none : option_and_then number_in (slice_get locals slot) ≡ None = subst (λ (n : ℕ). option_and_then number_in (slice_get locals n) ≡ None) place other.1 in
          let nothing : None ≡ Some v = known None none in
          absurd cc

  result_told : (t : Term) (kind : Option Kind) → kind ≡ clause.result → TellsResult base kind locals event → result_in clause base slot ≡ Some t
      → term_value program state event t ≡ Some v
  result_told t None none told e =
      let c = cond_some ((slot == base) && option_map_or is_number clause.result false) terms.Result t e in
      let p = and_parts (slot == base) (option_map_or is_number clause.result false) c.0 in
      let some = passing is_number clause.result p.1 in
      let nothing : None ≡ Some some.0 = none ∙ some.1 in
      absurd cc
  result_told t (Some kind) is told e =
      let c = cond_some ((slot == base) && option_map_or is_number clause.result false) terms.Result t e in
      let p = and_parts (slot == base) (option_map_or is_number clause.result false) c.0 in
      let place : base ≡ slot = sym (eqb-true slot base p.0) in
      let here : option_and_then number_in (slice_get locals slot) ≡ returned event =
      subst (λ (n : ℕ). option_and_then number_in (slice_get locals n) ≡ returned event) place told in
      rw (← c.1) (known (returned event) here)

  local_told : (t : Term) (phase : Phase8) → TellsIn strict clause phase base locals event
      → cond (is_before phase) (argument_in clause base slot) (cond (is_after phase) (result_in clause base slot) None) ≡ Some t
      → term_value program state event t ≡ Some v
  local_told t Before told e = argument_told t told e
  local_told t After told e = result_told t clause.result refl told e
  local_told t Exceptional told e = absurd cc

-- ---- what is pushed

module _ (program : Program) (policy : Policy) (annotations : Annotations) (machine : Machine) (a : Acting) (change : Change) (next : Insn × Target)
    (step : insn_stepped program machine a next ≡ Some change) where
  -- The instruction pushes the lock.
  pub pushes_lock : pushes_state (shape_of next.0) next.1 ≡ true
      → Following program machine a change (world_of machine) a.frame.locals (lock_of program ∷ a.frame.stack.items) × (ends (shape_of next.0) ≡ false)
  pushes_lock e =
      let s = state_pushed (shape_of next.0) next.1 e in
      let p = pushes_constant program machine a change next step s.0 in
      let named : option_map values.Class (class_index program state_name) ≡ Some p.0 = ap (constant_value program) (sym s.1) ∙ p.1 in
      let c = map_of values.Class (class_index program state_name) p.0 named in
      let lock : lock_of program ≡ p.0 = ap (λ (o : Option ℕ). values.Class (option_map_or (λ (at : ℕ). at) o (length (classes_of program)))) c.1 ∙ c.2 in
      (subst (λ (v : Value). Following program machine a change (world_of machine) a.frame.locals (v ∷ a.frame.stack.items)) (sym lock) p.2, ap ends s.0)

  -- It pushes a number.
  pub pushes_this : (n : ℤ) → number_pushed (shape_of next.0) next.1 ≡ Some n
      → Following program machine a change (world_of machine) a.frame.locals (values.Int n ∷ a.frame.stack.items) × (ends (shape_of next.0) ≡ false)
  pushes_this n e = elim (number_is (shape_of next.0) next.1 n e) [
    | inl is ↦ (pushes_number program machine a change next step n is, ap ends is)
    | inr is ↦
        let p = pushes_constant program machine a change next step is.0 in
        let value : values.Int n ≡ p.0 = some_is (values.Int n) p.0 (ap (constant_value program) (sym is.1) ∙ p.1) in
        (subst (λ (v : Value). Following program machine a change (world_of machine) a.frame.locals (v ∷ a.frame.stack.items)) (sym value) p.2, ap ends is.0)
  ]

  module _ (site : Site) (clause : Clause) (map : List Term) (state : Values) (event : Event) (strict : Bool) (told : TellsIn strict clause site.phase site.base a.frame.locals event)
      (fields : List Value) (variables : AreTerms program state event map fields) (there : slice_get machine.statics (state_of program policy annotations) ≡ Some fields) where
    abbrev rules : Rules
    rules = rules_of program policy annotations

    -- What stands for the term is pushed.
    pub record IsPushed (t : Term) : Type 0 where
      pub value : Value
      pub stands : term_value program state event t ≡ Some value
      pub goes : Following program machine a change (world_of machine) a.frame.locals (value ∷ a.frame.stack.items)
      pub stays : ends (shape_of next.0) ≡ false

    local_pushed : (t : Term) → option_and_then (local_term site clause) (loaded_number (shape_of next.0)) ≡ Some t → IsPushed t
    local_pushed t e =
        let slot = and_then_of (local_term site clause) (loaded_number (shape_of next.0)) t e in
        let is = loaded_is (shape_of next.0) slot.0 slot.1 in
        let l = loads program machine a change next step shape_kinds.Int slot.0 is in
        record {
          value = l.0;
          stands = local_told program clause site.base a.frame.locals state event strict slot.0 l.0 l.1.there l.1.fit t site.phase told slot.2;
          goes = l.2;
          stays = ap ends is;
        }

    field_pushed : (t : Term) → field_term rules map (shape_of next.0) next.1 ≡ Some t → IsPushed t
    field_pushed t e = elim (cases_Bool (reads_static (shape_of next.0))) [
      | inl reads ↦
          let found : option_and_then (slice_get map) (variable_named rules.state next.1) ≡ Some t = rw reads at e in
          let var = and_then_of (slice_get map) (variable_named rules.state next.1) t found in
          let is = reads_is (shape_of next.0) reads in
          let names = variable_is_named rules.state next.1 var.0 var.1 in
          let v = reads_variable program machine a change next step rules.state var.0 fields is names there in
          record { value = v.0; stands = term_at program state event map fields var.0 t v.0 variables var.2 v.1; goes = v.2; stays = ap ends is }
      | inr other ↦ let none : None ≡ Some t = rw other at e in absurd cc
    ]

    pub term_is_pushed : (t : Term) → term_pushed rules site clause map (shape_of next.0) next.1 ≡ Some t → IsPushed t
    term_is_pushed t e = elim (cases_Bool (pushes_state (shape_of next.0) next.1)) [
      | inl lock ↦
          let is : Some terms.Lock ≡ Some t = rw lock at e in
          let same : terms.Lock ≡ t = cc in
          let p = pushes_lock lock in
          record { value = lock_of program; stands = ap (term_value program state event) (sym same); goes = p.0; stays = p.1 }
      | inr other ↦
          let rest : option_or (option_map terms.Const (number_pushed (shape_of next.0) next.1))
          (option_or (option_and_then (local_term site clause) (loaded_number (shape_of next.0))) (field_term rules map (shape_of next.0) next.1)) ≡ Some t =
          rw other at e in
          elim (either_option (option_map terms.Const (number_pushed (shape_of next.0) next.1)) _ t rest) [
            | inl number ↦
                let n = map_of terms.Const (number_pushed (shape_of next.0) next.1) t number in
                let p = pushes_this n.0 n.1 in
                record { value = values.Int n.0; stands = ap (term_value program state event) (sym n.2); goes = p.0; stays = p.1 }
            | inr later ↦ elim (either_option (option_and_then (local_term site clause) (loaded_number (shape_of next.0))) _ t later) [
              | inl local ↦ local_pushed t local
              | inr field ↦ field_pushed t field
            ]
          ]
    ]
