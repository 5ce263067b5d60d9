-- Steps of the way out: its value is pushed, and the program is stopped.
use Rattle.std.proofs.Common.{◌≡◌, ℕ, zero, suc, ℤ, pos, true, false, List, [], ◌∷◌, Option, Some, None, refl, sym, ap, ◌∙◌, subst}
use Rattle.std.specs.Prelude.{option_and_then, slice_get}
use Rattle.std.specs.Option.{option_map_or}
use Rattle.std.specs.Ordering.{int_eq}
use Rattle.std.proofs.lemmas.Bool.{and_parts}
use Rattle.insn_codec.specs.declared.insn.Insn.{Insn}
use Rattle.insn_codec.specs.declared.shape.Heap.TheVariants as heap
use Rattle.insn_codec.specs.declared.shape.How.{How}
use Rattle.insn_codec.specs.Shapes.{shape_of}
use Rattle.bytecode_model.specs.declared.program.Program.{Program}
use Rattle.bytecode_model.specs.declared.program.Target.{Target}
use Rattle.bytecode_model.specs.declared.program.Target.TheVariants as target
use Rattle.bytecode_model.specs.SearchOrder.{Name}
use Rattle.block_logic.specs.Annotations.{Annotations}
use Rattle.cert_format.specs.declared.note.Note.TheVariants as notes
use Rattle.cert_format.specs.declared.note.Site.{Site}
use Rattle.conspec_automaton.specs.declared.policy.Policy.{Policy}
use Rattle.conspec_automaton.specs.Next.{Values}
use Rattle.conspec_automaton.specs.Range.{in_range}
use Rattle.guest_heap.specs.declared.value.Value.{Value}
use Rattle.guest_heap.specs.declared.value.Value.TheVariants as values
use Rattle.guest_model.specs.declared.builtin.Builtin.{Builtin}
use Rattle.guest_model.specs.declared.builtin.Builtin.TheVariants as builtins
use Rattle.guest_model.specs.declared.machine.Machine.{Machine}
use Rattle.guest_model.specs.Builtins.{builtin_at}
use Rattle.guest_model.specs.Calling.{Calling, built_in, calls as calls_out, calls_named, desc_named, exits, goes_past, is_static_call, stopped_by}
use Rattle.guest_model.specs.Calls.{Taken, arity, taken}
use Rattle.guest_model.specs.Changes.{Change, World, world_of}
use Rattle.guest_model.specs.Parts.{number_in}
use Rattle.guest_model.specs.Stepping.{Acting}
use Rattle.guest_model.proofs.Options.{and_then_of, map_of}
use Rattle.block_logic.specs.Agreement.{Clear, Granted, Owed, Part, Settles}
use Rattle.block_logic.specs.Meaning.{MeansStop}
use Rattle.block_logic.specs.Obeying.{IsObeying}
use Rattle.block_logic.specs.Operands.{calls, is_way_out, number_pushed, stops}
use Rattle.block_logic.proofs.Owner.Fair.{means_fair}
use Rattle.block_logic.proofs.Owner.Acting.{ActsIn, goes_with_after}
use Rattle.block_logic.proofs.Owner.Granted.{how_calls}
use Rattle.block_logic.proofs.Owner.Moves.{on_heap}
use Rattle.block_logic.proofs.Owner.Pushes.{pushes_this}
use Rattle.block_logic.proofs.Owner.Rows.{gives_asks, where_so}
use Rattle.block_logic.proofs.Owner.Terms.{same_number}
use Rattle.block_logic.proofs.Steps.{ChangesBlock}

-- ---- the method that stops the program

stopping_is : (o : Option Builtin) → option_map_or stops o false ≡ true → o ≡ Some builtins.Exit
stopping_is (Some builtins.Exit) e = refl
stopping_is (Some builtin) e = absurd cc
stopping_is None e = absurd cc

way_out_is : (ref : Target) → is_way_out ref ≡ true → (index : ℕ) × (ref ≡ target.Builtin index) × (builtin_at index ≡ Some builtins.Exit)
way_out_is (target.Builtin index) e = (index, refl, stopping_is (builtin_at index) e)
way_out_is ref e = absurd cc

-- A call of it stops the program, begins no thread and has no event.
record Stops (change : Change) : Type 0 where
  pub stops : ℤ
  pub is : change.stops ≡ Some stops
  pub begins : change.begins ≡ None
  pub silent : change.event ≡ None

stopped_stops : (world : World) (c : Calling) (change : Change) (n : ℤ) → stopped_by world c n ≡ Some change → Stops change
stopped_stops world c change n e =
    let stopping : Change → Change = λ past. record { world = past.world; thread = past.thread; begins = None; stops = Some n; event = None } in
    let m = map_of stopping (goes_past world c []) change e in
    subst Stops m.2 (record { stops = n; is = refl; begins = refl; silent = refl })

exits_stop : (world : World) (c : Calling) (change : Change) → exits world c ≡ Some change → Stops change
exits_stop world c change e =
    let n = and_then_of (stopped_by world c) (option_and_then number_in (slice_get c.passed.arguments 0)) change e in
    stopped_stops world c change n.0 n.2

exit_stops : (program : Program) (machine : Machine) (a : Acting) (change : Change) (how : How) (index : ℕ) → builtin_at index ≡ Some builtins.Exit
    → calls_out program machine a.number a.thread a.frame a.below how (target.Builtin index) ≡ Some change → Stops change
exit_stops program machine a change how index exit e =
    let called = λ (passed : Taken). calls_named program machine (record { number = a.number; thread = a.thread; frame = a.frame; below = a.below; passed = passed }) how (target.Builtin index) in
    let items = a.frame.stack.items in
    let desc = and_then_of (λ (desc : Name). option_and_then called (taken (is_static_call how) (arity desc) items)) (desc_named program (target.Builtin index)) change e in
    let passed = and_then_of called (taken (is_static_call how) (arity desc.0) items) change desc.2 in
    made passed.0 passed.2 where
      made : (passed : Taken)
          → calls_named program machine (record { number = a.number; thread = a.thread; frame = a.frame; below = a.below; passed = passed }) how (target.Builtin index) ≡ Some change → Stops change
      made passed e =
          let c : Calling = record { number = a.number; thread = a.thread; frame = a.frame; below = a.below; passed = passed } in
          exits_stop (world_of machine) c change (subst (λ (b : Option Builtin). option_and_then (built_in program machine c how) b ≡ Some change) exit e)

-- ---- the steps

module _ (program : Program) (policy : Policy) (annotations : Annotations) (o : IsObeying program policy annotations)
    (machine : Machine) (a : Acting) (next : Insn × Target) (change : Change) (fields : List Value) (recorded : Values) (part : Part) (ranged : in_range policy recorded ≡ true) (site : Site) where
  abbrev Changes : Type 0
  Changes = ChangesBlock program policy annotations true (world_of machine) a.number recorded part change

  settles_still : (p : Part) → Settles policy recorded p recorded p
  settles_still Clear = refl
  settles_still (Granted call) = (refl, refl)
  settles_still (Owed end) = (refl, refl)

  stopping : (place : ℕ) → MeansStop program policy annotations.held a.frame place part → Stops change → Changes
  stopping place m s =
      record {
        begins = s.begins;
        now = recorded;
        ranged = ranged;
        due = part;
        turns = rw s.silent (settles_still part);
        fair = means_fair program policy annotations true recorded fields a.frame (notes.Stop site place) part (refl, m);
        fit = rw s.silent tt;
        loose = tt;
        goes = λ on. let not_so : Some s.stops ≡ None = sym s.is ∙ on in absurd cc;
      }

  value_pushed : (n : ℤ) (o : Option ℤ) → option_map_or (λ (m : ℤ). int_eq m n) o false ≡ true → o ≡ Some n
  value_pushed n None e = absurd cc
  value_pushed n (Some m) e = ap Some (same_number m n e)

  -- An instruction of the way out changes what it may.
  pub stop_steps : (place : ℕ) → ActsIn program policy annotations true machine a next change (notes.Stop site place) fields → MeansStop program policy annotations.held a.frame place part → Changes
  stop_steps zero h m =
      let w = where_so _ _ h.ruled.r h.ruled.has in
      let value = value_pushed (pos 77) (number_pushed (shape_of next.0) next.1) w.0 in
      let p = pushes_this program policy annotations machine a change next h.step (pos 77) value in
      goes_with_after program policy annotations o true machine a next change _ fields h recorded part ranged (λ other. absurd cc) (values.Int (pos 77) ∷ a.frame.stack.items) (notes.Stop site 1) p.1
      (gives_asks (notes.Stop site 1) h.ruled.r w.1) p.0 (refl, record { refused = m.refused; stopping = refl })
  stop_steps (suc zero) h m =
      let w = where_so _ _ h.ruled.r h.ruled.has in
      let p = and_parts (calls (shape_of next.0)) _ w.0 in
      let index = way_out_is next.1 p.1 in
      let how = how_calls (shape_of next.0) p.0 in
      let made : calls_out program machine a.number a.thread a.frame a.below how.0 (target.Builtin index.0) ≡ Some change =
      subst (λ (ref : Target). calls_out program machine a.number a.thread a.frame a.below how.0 ref ≡ Some change) index.1 (on_heap program machine a change next h.step (heap.Call how.0) how.1) in
      stopping 1 m (exit_stops program machine a change how.0 index.0 index.2 made)
  stop_steps (suc (suc n)) h m = absurd m.stopping
