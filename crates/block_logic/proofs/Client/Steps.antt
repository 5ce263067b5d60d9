-- A step of a thread that does not hold the lock: its instruction is the client's, or pushes the lock's class, after which the lock is taken.
use Rattle.std.proofs.Common.{◌≡◌, ℕ, ◌+◌, Bool, true, false, cond, List, [], ◌∷◌, length, Option, Some, None, Result, Ok, refl, sym, ap, subst, ◌∙◌, inl, inr}
use Rattle.std.specs.Prelude.{is_some, nat_lt, not}
use Rattle.std.specs.Option.{option_map_or}
use Rattle.std.proofs.lemmas.Bool.{and_parts, cases_Bool, false_from_ne_true, false≢true}
use Rattle.std.proofs.lemmas.Slice.Eq.{bytes_eq-Decides}
use Rattle.block_logic.specs.Annotations.{Annotations}
use Rattle.block_logic.specs.declared.held_calls.HeldCalls.{HeldCalls}
use Rattle.cert_format.specs.declared.note.Note.{Note}
use Rattle.cert_format.specs.declared.note.Note.TheVariants as notes
use Rattle.insn_codec.specs.declared.insn.Insn.{Insn}
use Rattle.insn_codec.specs.declared.shape.Heap.{Heap}
use Rattle.insn_codec.specs.declared.shape.Heap.TheVariants as heap
use Rattle.insn_codec.specs.declared.shape.Shape.{Shape}
use Rattle.insn_codec.specs.declared.shape.Shape.TheVariants as shapes
use Rattle.insn_codec.specs.Shapes.{shape_of}
use Rattle.insn_codec.specs.Table.{ends}
use Rattle.bytecode_model.specs.declared.program.Program.{Program}
use Rattle.bytecode_model.specs.declared.program.Target.{Target}
use Rattle.bytecode_model.specs.declared.program.Target.TheVariants as target
use Rattle.bytecode_model.specs.SearchOrder.{Name}
use Rattle.conspec_automaton.specs.declared.policy.Policy.{Policy}
use Rattle.guest_heap.specs.declared.frame.Frame.{Frame}
use Rattle.guest_heap.specs.declared.value.Value.{Value}
use Rattle.guest_heap.specs.declared.value.Value.TheVariants as values
use Rattle.guest_frames.specs.Stepping.{after, frame_stepped, moved_to}
use Rattle.guest_model.specs.declared.machine.Machine.{Machine}
use Rattle.guest_model.specs.Changes.{Change, World, world_of}
use Rattle.guest_model.specs.Parts.{constant_value}
use Rattle.guest_model.specs.Places.{class_index}
use Rattle.guest_model.specs.Stepping.{Acting, acts_on, comes_to, heap_in, heap_stepped, insn_stepped, operates}
use Rattle.guest_model.specs.HeapOperations.{heap_result}
use Rattle.guest_model.proofs.Options.{if_then, is_there, map_of, some_is, unless_of}
use Rattle.block_logic.specs.Accepted.{rules_of}
use Rattle.block_logic.specs.Fitting.{AreClientFrames, state_of}
use Rattle.block_logic.specs.Meaning.{AreClean, IsAbove, IsFree, lock_of}
use Rattle.block_logic.specs.Obeying.{IsObeying}
use Rattle.block_logic.specs.Operands.{calls, has_clause, is_state_name, loads_constant, pushes_state, state_name, variable_named}
use Rattle.block_logic.specs.Rows.{Open, Row, Rules, Taking, free_row, leads}
use Rattle.block_logic.specs.Weakening.{takes_for_call}
use Rattle.block_logic.proofs.Client.Changes.{Good, GoodIf, Keeps}
use Rattle.block_logic.proofs.Client.Frames.{Laws, goes_free, may_go_on, moved_frame}
use Rattle.block_logic.proofs.Client.Insns.{acts_good, shape_good}
use Rattle.block_logic.proofs.Client.Values.{lock_kept}
use Rattle.block_logic.proofs.Ruled.{BeginsOpen, IsRuled, LeadsTo, RulesHold}
use Rattle.block_logic.proofs.Steps.{Acts, ClientSteps}

-- ---- the instruction that pushes the lock's class

constant_is : (shape : Shape) → loads_constant shape ≡ true → shape ≡ shapes.Heap heap.Constant
constant_is (shapes.Heap heap.Constant) e = refl
constant_is other e = absurd cc

state_is : (ref : Target) → is_state_name ref ≡ true → ref ≡ target.ClassName state_name
state_is (target.ClassName name) e = ap target.ClassName ((bytes_eq-Decides name state_name).0 e)
state_is other e = absurd cc

row_taking : (rules : Rules) (shape : Shape) (ref : Target) (r : Row) → pushes_state shape ref ≡ true → free_row rules shape ref ≡ Some r → r.past ≡ Taking
row_taking rules shape ref r pushes e = by (pushes_state shape ref) pushes e where
  by : (b : Bool) → b ≡ true
      → cond b (leads Taking) (cond (not (is_some (variable_named rules.state ref))) (leads Open) None) ≡ Some r
      → r.past ≡ Taking
  by true f e = let same : record { past = Taking; jump = Taking; thrown = Open } ≡ r = some_is _ r e in ap (λ (x : Row). x.past) (sym same)
  by false f e = absurd (false≢true f)

module _ (program : Program) (policy : Policy) where
  taking_free : (held : HeldCalls) (frame : Frame) (note : Note) → takes_for_call policy note ≡ true → IsAbove program (lock_of program ∷ []) frame.stack.items
      → IsFree program policy held frame note
  taking_free held frame (notes.Taking site) takes above = (takes, above)
  taking_free held frame other takes above = absurd cc

  lock_is : (index : ℕ) → class_index program state_name ≡ Some index → values.Class index ≡ lock_of program
  lock_is index e = rw e refl

  module _ (annotations : Annotations) (laws : Laws program policy annotations) (machine : Machine) (a : Acting) (next : Insn × Target) (acts : Acts program policy annotations machine a next notes.Free)
      (clean : AreClean program a.frame.stack.items) where
    abbrev shared : World
    shared = world_of machine

    abbrev IsGood : Change → Type 0
    IsGood change = Good program policy annotations (world_of machine) change

    abbrev Makes : Option Change → Type 0
    Makes change = GoodIf program policy annotations (world_of machine) change

    kept : Keeps program policy annotations (world_of machine) (world_of machine)
    kept = lock_kept program (state_of program policy annotations) (world_of machine) acts.world

    ruled : IsRuled program policy annotations a.frame next notes.Free
    ruled = laws.rules_hold a.frame next notes.Free acts.there acts.told

    -- ---- taking the lock

    module _ (shape : shape_of next.0 ≡ shapes.Heap heap.Constant) (takes : ruled.r.past ≡ Taking) where
      leads_taking : LeadsTo program policy annotations a.frame (a.frame.at + 1) Taking
      leads_taking =
          subst (LeadsTo program policy annotations a.frame (a.frame.at + 1)) takes
          (ruled.past (may_go_on program policy annotations laws a.frame next acts.there (ap ends shape)))

      takes_after : (v : Value) → v ≡ lock_of program → (f : Frame) → after a.frame (v ∷ a.frame.stack.items) ≡ Some f
          → AreClientFrames program policy annotations (f ∷ a.below)
      takes_after v is f e =
          let items : List Value = v ∷ a.frame.stack.items in
          let to : Frame = moved_to a.frame (a.frame.at + 1) a.frame.locals items in
          let above : IsAbove program (lock_of program ∷ []) items =
          record { rest = a.frame.stack.items; is = ap (λ (w : Value). w ∷ a.frame.stack.items) is; clean = clean } in
          subst (λ (x : Frame). AreClientFrames program policy annotations (x ∷ a.below)) (unless_of (nat_lt a.frame.stack.size (length items)) to f e) (
            moved_frame program policy annotations a.frame (a.frame.at + 1) a.frame.locals items acts.well acts.well.locals,
            inr (leads_taking.note, leads_taking.told, taking_free annotations.held to leads_taking.note leads_taking.meets above),
            acts.below,
          )

      lock_pushed : Makes (operates program shared a heap.Constant (target.ClassName state_name))
      lock_pushed =
          let items : List Value = a.frame.stack.items in
          if_then IsGood (comes_to program shared a) (heap_result program shared heap.Constant (target.ClassName state_name) items)
          (λ made e.
          let m = map_of (λ (v : Value). Ok (shared, v ∷ items)) (constant_value program (target.ClassName state_name)) made e in
          let c = map_of values.Class (class_index program state_name) m.0 m.1 in
          let lock : m.0 ≡ lock_of program = sym c.2 ∙ lock_is c.0 c.1 in
          subst (λ (r : Result (World × List Value) Name). Makes (comes_to program shared a r)) m.2
          (acts_good program policy annotations laws machine kept a acts.well clean acts.below shared
          (after a.frame (m.0 ∷ items)) kept (takes_after m.0 lock)))

      pushes_lock : next.1 ≡ target.ClassName state_name → Makes (insn_stepped program machine a next)
      pushes_lock ref =
          subst (λ (s : Shape). Makes (option_map_or (λ (what : Heap). heap_stepped program machine a what next.1) (heap_in s) (acts_on shared a (frame_stepped next.0 a.frame))))
          (sym shape) (subst (λ (r : Target). Makes (operates program shared a heap.Constant r)) (sym ref) lock_pushed)

    taken_good : pushes_state (shape_of next.0) next.1 ≡ true → Makes (insn_stepped program machine a next)
    taken_good pushes =
        let parts = and_parts (loads_constant (shape_of next.0)) (is_state_name next.1) pushes in
        pushes_lock (constant_is (shape_of next.0) parts.0)
        (row_taking (rules_of program policy annotations) (shape_of next.0) next.1 ruled.r pushes ruled.has) (state_is next.1 parts.1)

    -- ---- any other instruction

    -- a call has no clause
    unclaused : calls (shape_of next.0) ≡ true → has_clause policy next.1 ≡ false
    unclaused call = false_from_ne_true (has_clause policy next.1) (λ has. false≢true (ruled.granted call has))

    other_good : pushes_state (shape_of next.0) next.1 ≡ false → Makes (insn_stepped program machine a next)
    other_good apart =
        let g = goes_free program policy annotations laws a.frame next acts.there acts.told apart in
        shape_good program policy annotations laws machine kept a acts.well clean acts.below next acts.there g (ruled.alone refl) acts.told unclaused
        apart (shape_of next.0) refl

    pub step_good : Makes (insn_stepped program machine a next)
    step_good = elim (cases_Bool (pushes_state (shape_of next.0) next.1)) [
      | inl pushes ↦ taken_good pushes
      | inr apart ↦ other_good apart
    ]

  pub client_steps : (annotations : Annotations) → IsObeying program policy annotations → RulesHold program policy annotations → BeginsOpen program policy annotations
      → ClientSteps program policy annotations
  client_steps annotations o rules_hold begins_open machine a next change acts clean e =
      let laws : Laws program policy annotations = record { obeys = o; rules_hold = rules_hold; begins_open = begins_open } in
      is_there (Good program policy annotations (world_of machine)) (insn_stepped program machine a next) change
      (step_good annotations laws machine a next acts clean) e
