-- A thread goes on in a block: which note stands where control goes, and what is so there, with the lock held or given up.
use Rattle.std.proofs.Common.{◌≡◌, ℕ, zero, suc, ◌+◌, Bool, true, false, cond, List, [], ◌∷◌, ◌++◌, Option, Some, None, refl, ap, ◌∙◌, subst, arith, inl, inr}
use Rattle.std.specs.Prelude.{Contains, IfSome, not, slice_get}
use Rattle.std.proofs.lemmas.List.Elements.{Contains-append_cases}
use Rattle.api_listing.specs.declared.events.Event.{Event}
use Rattle.insn_codec.specs.declared.insn.Insn.{Insn}
use Rattle.insn_codec.specs.declared.shape.Relation.{Relation}
use Rattle.insn_codec.specs.declared.shape.Shape.TheVariants as shapes
use Rattle.insn_codec.specs.Control.{jump_targets, next_of}
use Rattle.insn_codec.specs.Fits.{IsInsn}
use Rattle.insn_codec.specs.Opcodes.{goes_on}
use Rattle.insn_codec.specs.Shapes.{shape_of}
use Rattle.insn_codec.specs.Encoding.{opcode_of}
use Rattle.insn_codec.specs.Table.{ends, is_heap}
use Rattle.insn_codec.proofs.Table.{goes_on_alike, goes_to_successor}
use Rattle.bytecode_model.specs.declared.program.Method.{Method}
use Rattle.bytecode_model.specs.declared.program.Program.{Program}
use Rattle.bytecode_model.specs.declared.program.Target.{Target}
use Rattle.block_logic.specs.Annotations.{Annotations}
use Rattle.cert_format.specs.declared.note.Note.{Note}
use Rattle.conspec_automaton.specs.declared.policy.Policy.{Policy}
use Rattle.conspec_automaton.specs.Next.{Values}
use Rattle.conspec_automaton.specs.Range.{in_range}
use Rattle.guest_heap.specs.declared.frame.Frame.{Frame}
use Rattle.guest_heap.specs.declared.thread.Doing.TheVariants as doings
use Rattle.guest_heap.specs.declared.thread.Thread.{Thread}
use Rattle.guest_heap.specs.declared.value.Value.{Value}
use Rattle.guest_frames.specs.Stepping.{moved_to}
use Rattle.guest_frames.specs.Values.{values_seen}
use Rattle.guest_model.specs.Changes.{Change, World, goes, with_event}
use Rattle.guest_model.specs.Places.{insn_at, insn_in, method_at}
use Rattle.guest_model.proofs.Options.{and_then_of}
use Rattle.block_logic.specs.Agreement.{Clear, Part, Settles, Turns, clause_event}
use Rattle.block_logic.specs.Fitting.{AreBelow, IsBlockFrame, IsClientFrame, IsCleanWorld, held_locks, state_of}
use Rattle.block_logic.specs.Meaning.{AreClean, AreState, IsFrame, Means}
use Rattle.block_logic.specs.Obeying.{IsObeying}
use Rattle.block_logic.specs.Rows.{Given, Open}
use Rattle.block_logic.proofs.Agreement.{no_clause}
use Rattle.block_logic.proofs.Owner.Fair.{block_anywhere, clear_fair, means_fair, means_loose}
use Rattle.block_logic.proofs.Owner.Weakening.{stands}
use Rattle.block_logic.proofs.Racing.{IsLoose, IsLooseEvent}
use Rattle.block_logic.proofs.Ruled.{LeadsTo, OpensFree}
use Rattle.block_logic.proofs.Steps.{AreLoose, ChangesBlock, ChangesClient, IsFit, LocksAre, Stays, VariablesAre}

-- ---- where control goes

not_after : (b : Bool) (to : ℕ) → Contains (cond b ((to + 1) ∷ []) []) to → ⊥
not_after true to (zero, inside, is) = absurd (omega (arith, is))
not_after true to (suc k, inside, is) = absurd (omega (arith, inside))
not_after false to c = absurd (omega (arith, c.1))

jump_there : (insn : Insn) (to : ℕ) (stack : List Value) → IsInsn insn → is_heap (shape_of insn) ≡ false → next_of values_seen insn to stack ≡ to
    → Contains (jump_targets insn) to
jump_there insn to stack is frame goes =
    let c = goes_to_successor values_seen insn to stack is frame in
    let there : Contains (cond (goes_on (opcode_of insn)) ((to + 1) ∷ []) [] ++ jump_targets insn) to =
    subst (λ (n : ℕ). Contains (cond (goes_on (opcode_of insn)) ((to + 1) ∷ []) [] ++ jump_targets insn) n) goes c in
    elim (Contains-append_cases (cond (goes_on (opcode_of insn)) ((to + 1) ∷ []) []) (jump_targets insn) to there) [
      | inl first ↦ absurd (not_after (goes_on (opcode_of insn)) to first)
      | inr jump ↦ jump
    ]

module _ (program : Program) (policy : Policy) (annotations : Annotations) (o : IsObeying program policy annotations) where
  module _ (frame : Frame) (next : Insn × Target) (there : insn_at program frame ≡ Some next) where
    pub is_insn : IsInsn next.0
    is_insn =
        let m = and_then_of (λ (method : Method). insn_in method frame.at) (method_at program frame.class frame.method) next there in
        o.insns frame.class frame.method frame.at next.0 next.1 (record { of = m.0; there = m.1; is = m.2 })

    pub goes_after : ends (shape_of next.0) ≡ false → goes_on (opcode_of next.0) ≡ true
    goes_after stays = goes_on_alike next.0 is_insn ∙ ap not stays

    pub goes_there : (to : ℕ) → shape_of next.0 ≡ shapes.Goto to → Contains (jump_targets next.0) to
    goes_there to is =
        let goes : next_of values_seen next.0 to [] ≡ to = rw is refl in
        jump_there next.0 to [] is_insn (ap is_heap is) goes

    pub compares_there : (relation : Relation) (to : ℕ) (stack : List Value) → shape_of next.0 ≡ shapes.Compare relation to
        → next_of values_seen next.0 to stack ≡ to → Contains (jump_targets next.0) to
    compares_there relation to stack is goes = jump_there next.0 to stack is_insn (ap is_heap is) goes

  -- The frame stands at a note of a block, which may stand for what was given.
  pub record Lands (mine : Bool) (recorded : Values) (fields : List Value) (frame : Frame) (part : Part) : Type 0 where
    pub now : Values
    pub ranged : in_range policy now ≡ true
    pub due : Part
    pub settles : Settles policy recorded part now due
    pub still : mine ≡ false → (now ≡ recorded) × (due ≡ part)
    pub top : IsBlockFrame program policy annotations mine now fields frame due

  module _ (frame : Frame) (well : IsFrame program frame) where
    pub frame_moved : (to : ℕ) (locals items : List Value) → AreClean program locals → IsFrame program (moved_to frame to locals items)
    frame_moved to locals items clean = record { size = well.size; lock = well.lock; locals = clean }

    pub block_frame : (mine : Bool) (recorded : Values) (fields : List Value) (part : Part) → in_range policy recorded ≡ true → (to : ℕ) (locals items : List Value) (given : Note)
        → AreClean program locals → LeadsTo program policy annotations frame to (Given given)
        → Means program policy annotations.held mine recorded fields (moved_to frame to locals items) given part
        → Lands mine recorded fields (moved_to frame to locals items) part
    block_frame mine recorded fields part ranged to locals items given clean leads means =
        let s = stands program policy annotations o recorded fields (moved_to frame to locals items) part ranged mine given leads.note means leads.meets in
        record {
          now = s.now;
          ranged = s.ranged;
          due = s.due;
          settles = s.settles;
          still = s.still;
          top = record { well = frame_moved to locals items clean; note = leads.note; told = leads.told; means = s.means };
        }

    -- the frame in no block
    pub client_frame : OpensFree program policy annotations → (to : ℕ) (locals items : List Value) → AreClean program items → LeadsTo program policy annotations frame to Open
        → IsClientFrame program policy annotations (moved_to frame to locals items)
    client_frame opens to locals items clean leads = inr (leads.note, leads.told, opens (moved_to frame to locals items) leads.note leads.meets clean)

  -- ---- what a step comes to

  -- What is shared is clean; and the locks and the variables are as they are to be.
  pub record IsShared (mine : Bool) (number : ℕ) (fields : List Value) (shared world : World) : Type 0 where
    pub clean : IsCleanWorld program (state_of program policy annotations) world
    pub locks : LocksAre program policy annotations mine number shared world
    pub variables : VariablesAre program policy annotations mine fields shared world

  abbrev Loose : Part → Type 0
  Loose = IsLoose policy annotations.held (IsFit program policy annotations)

  -- its parts are loose, where it does not hold the lock
  pub lands_loose : (mine : Bool) (recorded : Values) (fields : List Value) (frame : Frame) (part before : Part) (event : Option Event) → (mine ≡ false → Loose before)
      → (mine ≡ false → IfSome event (IsLooseEvent policy annotations.held (IsFit program policy annotations))) → (l : Lands mine recorded fields frame part)
      → AreLoose program policy annotations mine before event l.due
  lands_loose true recorded fields frame part before event own seen l = tt
  lands_loose false recorded fields frame part before event own seen l =
      (own refl, means_loose program policy annotations l.now fields frame l.top.note l.due l.top.means, seen refl)

  module _ (number : ℕ) (recorded : Values) (fields : List Value) (part : Part) (shared world : World) (thread : Thread) (frame : Frame) (below : List Frame)
      (under : AreBelow program policy annotations below) where
    stays : (mine : Bool) (middle : Part) (event : Option Event) → IsShared mine number fields shared world → (l : Lands mine recorded fields frame middle)
        → Stays program policy annotations mine shared number (with_event (goes world thread (frame ∷ below)) event) recorded l.now l.due
    stays true middle event held l = inl (record { locks = held.locks; fields = fields; variables = held.variables; owns = (l.top, under) })
    stays false middle event held l = record {
      locks = held.locks;
      variables = held.variables;
      still = (l.still refl).0;
      other = inr (block_anywhere program policy annotations l.now [] fields [] (frame ∷ below) doings.Running l.due (l.top, under));
    }

    -- It goes on in its block. `middle` is its part as it was given.
    pub goes_in : (mine : Bool) (middle : Part) (event : Option Event) → IfSome (clause_event policy event) (IsFit program policy annotations)
        → IsShared mine number fields shared world → (l : Lands mine recorded fields frame middle)
        → Turns policy recorded part (clause_event policy event) l.now l.due → AreLoose program policy annotations mine part (clause_event policy event) l.due
        → ChangesBlock program policy annotations mine shared number recorded part (with_event (goes world thread (frame ∷ below)) event)
    goes_in mine middle event fit held l turns loose = record {
      begins = refl;
      now = l.now;
      ranged = l.ranged;
      due = l.due;
      turns = turns;
      fair = means_fair program policy annotations mine l.now fields frame l.top.note l.due l.top.means;
      fit = fit;
      loose = loose;
      goes = λ on. (held.clean, stays mine middle event held l);
    }

    -- It gives the lock up, and goes on in the client's code,
    pub gives_free : IsCleanWorld program (state_of program policy annotations) world → held_locks program world.monitors ≡ []
        → slice_get world.statics (state_of program policy annotations) ≡ Some fields → (now : Values) → in_range policy now ≡ true → Settles policy recorded part now Clear
        → AreState fields now → IsFrame program frame → IsClientFrame program policy annotations frame
        → ChangesBlock program policy annotations true shared number recorded part (goes world thread (frame ∷ below))
    gives_free clean none variables now ranged settles are well client = record {
      begins = refl;
      now = now;
      ranged = ranged;
      due = Clear;
      turns = settles;
      fair = clear_fair program policy annotations;
      fit = tt;
      loose = tt;
      goes = λ on. (clean, inr (record { locks = none; fields = fields; variables = variables; are = are; other = inl ((well, client, under), refl) }));
    }

    -- or in its block.
    pub gives_on : IsCleanWorld program (state_of program policy annotations) world → held_locks program world.monitors ≡ []
        → slice_get world.statics (state_of program policy annotations) ≡ Some fields → (now : Values) (due : Part) → in_range policy now ≡ true → Settles policy recorded part now due
        → AreState fields now → (r : Values) (f : List Value) → IsBlockFrame program policy annotations false r f frame due
        → ChangesBlock program policy annotations true shared number recorded part (goes world thread (frame ∷ below))
    gives_on clean none variables now due ranged settles are r f top = record {
      begins = refl;
      now = now;
      ranged = ranged;
      due = due;
      turns = settles;
      fair = means_fair program policy annotations false r f frame top.note due top.means;
      fit = tt;
      loose = tt;
      goes = λ on. (clean, inr (record { locks = none; fields = fields; variables = variables; are = are; other = inr (block_anywhere program policy annotations r [] f [] (frame ∷ below) doings.Running due (top, under)) }));
    }

    -- It does not hold the lock, and goes on in the client's code after a call that has no clause for its end.
    pub goes_open : (event : Option Event) → in_range policy recorded ≡ true → IsShared false number fields shared world → part ≡ Clear → clause_event policy event ≡ None
        → IsFrame program frame → IsClientFrame program policy annotations frame
        → ChangesBlock program policy annotations false shared number recorded part (with_event (goes world thread (frame ∷ below)) event)
    goes_open event ranged held clear none well client = record {
      begins = refl;
      now = recorded;
      ranged = ranged;
      due = Clear;
      turns = rw (clear, none) refl;
      fair = clear_fair program policy annotations;
      fit = rw none tt;
      loose = rw (clear, none) (tt, tt, tt);
      goes = λ on. (held.clean, record { locks = held.locks; variables = held.variables; still = refl; other = inl ((well, client, under), refl) });
    }

-- A thread of the client that goes on as one is as a thread is that does not hold the lock.
module _ (program : Program) (policy : Policy) (annotations : Annotations) (shared : World) (number : ℕ) (recorded : Values) (part : Part) (change : Change) where
  pub client_changes_block : in_range policy recorded ≡ true → part ≡ Clear → change.begins ≡ None → ChangesClient program policy annotations shared change
      → ChangesBlock program policy annotations false shared number recorded part change
  client_changes_block ranged clear none c =
      let unseen : clause_event policy change.event ≡ None = no_clause policy change.event c.event in
      record {
        begins = none;
        now = recorded;
        ranged = ranged;
        due = Clear;
        turns = rw (clear, unseen) refl;
        fair = clear_fair program policy annotations;
        fit = rw unseen tt;
        loose = rw (clear, unseen) (tt, tt, tt);
        goes = λ on. (c.world, record { locks = c.locks; variables = c.variables; still = refl; other = inl (c.thread, refl) });
      }
