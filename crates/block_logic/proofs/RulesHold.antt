-- The rules of the notes hold wherever a frame of an accepted program stands, and a method begins in no block.
use Rattle.std.proofs.Common.{◌≡◌, ℕ, ◌+◌, ◌<◌, Bool, true, false, List, [], ◌∷◌, length, Option, Some, None, refl, sym, ap, ◌∙◌, arith}
use Rattle.std.specs.Prelude.{◌&&◌, ◌||◌, ◌==◌, Contains, find, if◌then◌else◌, is_some, nat_le, not, slice_get}
use Rattle.std.specs.List.{AllByRecursion, list_all}
use Rattle.std.specs.Option.{option_map_or}
use Rattle.std.proofs.lemmas.Bool.{and_from, and_parts, leb-true, not-true}
use Rattle.std.proofs.lemmas.List.Elements.{Contains-append_right}
use Rattle.api_listing.specs.BuiltIn.{throwable}
use Rattle.insn_codec.specs.declared.insn.Insn.{Insn}
use Rattle.insn_codec.specs.Control.{jump_targets, successors}
use Rattle.insn_codec.specs.Opcodes.{goes_on}
use Rattle.insn_codec.specs.Shapes.{shape_of}
use Rattle.insn_codec.specs.Encoding.{opcode_of}
use Rattle.bytecode_model.specs.declared.program.Handler.{Handler}
use Rattle.bytecode_model.specs.declared.program.LinkedClass.{LinkedClass}
use Rattle.bytecode_model.specs.declared.program.Method.{Method}
use Rattle.bytecode_model.specs.declared.program.Program.{Program}
use Rattle.bytecode_model.specs.declared.program.Target.{Target}
use Rattle.bytecode_model.specs.declared.program.Target.TheVariants as target
use Rattle.bytecode_model.specs.Classes.{is_below}
use Rattle.bytecode_model.specs.InsnPlace.{InsnPlace}
use Rattle.bytecode_model.specs.Rules.{Caught, Depth, Entry, Frames, Local, Made, Operand, Successor, catches_well as catches_frame, class_caught, covers, frame_of, is_handled, row_failing, rule_failing}
use Rattle.bytecode_model.specs.SearchOrder.{Name}
use Rattle.bytecode_model.specs.Sound.{IsSoundClass, IsSoundMethod}
use Rattle.bytecode_model.specs.Typed.{frames_in, frames_told, place_at, reached, row_fault}
use Rattle.block_logic.specs.Annotations.{Annotations}
use Rattle.cert_format.specs.declared.note.Note.{Note}
use Rattle.cert_format.specs.declared.typing.FrameType.{FrameType}
use Rattle.conspec_automaton.specs.declared.policy.Policy.{Policy}
use Rattle.guest_heap.specs.declared.frame.Frame.{Frame}
use Rattle.guest_model.specs.Places.{insn_in, method_at}
use Rattle.guest_model.specs.ClosedPlaces.{IsAt}
use Rattle.guest_model.specs.Throwing.{catches, handler_of}
use Rattle.guest_model.proofs.Catching.{caught_at}
use Rattle.guest_model.proofs.Options.{all_get, and_then_of, find_is}
use Rattle.block_logic.specs.Meaning.{note_at}
use Rattle.block_logic.specs.Notes.{Here, all_pass, catches_all, first_handler, handlers_of, handlers_pass, is_asked_taking, is_duty_of, is_free, is_granted, is_owed_for_throw, is_stop, jump_of, meets, next_pass, note_passes, past_of, rules_at, thrown_by, told_fault}
use Rattle.block_logic.specs.Obeying.{IsObeying}
use Rattle.block_logic.specs.Operands.{calls, has_clause, is_way_out, pushes_state, variable_named}
use Rattle.block_logic.specs.Rows.{Asked, Row, Rules, is_duty, row}
use Rattle.block_logic.specs.Weakening.{is_open}
use Rattle.block_logic.proofs.Handling.{catching_covers, first_takes, taking_passes}
use Rattle.block_logic.proofs.Ruled.{BeginsOpen, LeadsTo, RulesHold, rules}
use Rattle.block_logic.proofs.Tests.{all_passed, chosen, get_within, if_so, it_is_there, not_chosen, not_there, passed_by}
use Rattle.block_logic.proofs.Told.{IsIn, fault_free, has_frame, here_at, is_in, is_reached, note_there, notes_of, rules_hold_at, told_in_method}

-- ---- instructions

-- an instruction at which no rule is broken is told a note
is_told_there : (given : Rules) (told : List Note) (m : Method) (here : Here) (note : Option Note) → told_fault given told m here note ≡ None
    → (n : Note) × (note ≡ Some n)
is_told_there given told m here None e = absurd cc
is_told_there given told m here (Some note) e = (note, refl)

-- ---- the last rule of typing

handled_from : (depth operand local made successor caught : Bool)
    → ◌≡◌ {A = Option ℕ} (if not depth then Some 2 else if not operand then Some 3 else if not local then Some 4 else if not made then Some 5
    else if not successor then Some 6 else if not caught then Some 7 else None) None → caught ≡ true
handled_from false operand local made successor caught e = absurd cc
handled_from true false local made successor caught e = absurd cc
handled_from true true false made successor caught e = absurd cc
handled_from true true true false successor caught e = absurd cc
handled_from true true true true false caught e = absurd cc
handled_from true true true true true false e = absurd cc
handled_from true true true true true true e = refl

all_rules : (entry : Bool) (rule : Option ℕ) → (if entry then Some 1 else rule) ≡ None → rule ≡ None
all_rules true rule e = absurd cc
all_rules false rule e = e

caught_well : (frames : Frames) (place : InsnPlace) (frame : FrameType) → row_failing frames place (Some frame) ≡ None → Caught frames place frame ≡ true
caught_well frames place frame e =
    handled_from (Depth place frame) (Operand place frame) (Local place frame) (Made place frame) (Successor frames place frame) (Caught frames place frame)
    (all_rules ((place.at == 0) && not (Entry place frame)) (rule_failing frames place frame) e)

module _ (program : Program) (policy : Policy) (annotations : Annotations) (o : IsObeying program policy annotations) where
  abbrev the_rules : Rules
  the_rules = rules program policy annotations

  abbrev is_told : ℕ → ℕ → ℕ → Note → Type 0
  is_told class method at note = note_at program annotations class method at ≡ Some note

  -- ---- an instruction with a note

  record IsNoted (class method at : ℕ) (next : Insn × Target) (note : Note) : Type 0 where
    pub i : IsIn program policy annotations class method at next
    pub reaches : reached program annotations.typing class method at ≡ true
    pub told : slice_get (notes_of program policy annotations i.c class method) at ≡ Some note
    -- the rules in their order
    pub hold : AllByRecursion (λ (rule : ℕ × Bool). rule.1 ≡ true)
        (rules_at the_rules (notes_of program policy annotations i.c class method) i.m note (here_at program policy annotations at next) (row the_rules note (shape_of next.0) next.1))

  is_noted : (class method at : ℕ) (m : Method) (next : Insn × Target) (note : Note) → method_at program class method ≡ Some m → insn_in m at ≡ Some next
      → is_told class method at note → IsNoted class method at next note
  is_noted class method at m next note there is told =
      let i = is_in program policy annotations class method at m next there is in
      let r = is_reached program policy annotations class method at note told in
      let n : slice_get (notes_of program policy annotations i.c class method) at ≡ Some note = sym (told_in_method program policy annotations class method at next i at) ∙ r.1 in
      record {
        i = i;
        reaches = r.0;
        told = n;
        hold = rules_hold_at program policy annotations class method at next i note r.0 (o.accepted.noted class method at) n;
      }

  module _ (frame : Frame) (next : Insn × Target) (note : Note) (n : IsNoted frame.class frame.method frame.at next note) where
    abbrev told : List Note
    told = notes_of program policy annotations n.i.c frame.class frame.method

    abbrev here : Here
    here = here_at program policy annotations frame.at next

    abbrev its_row : Option Row
    its_row = row the_rules note (shape_of next.0) next.1

    abbrev Leads : ℕ → Asked → Type 0
    Leads to asked = LeadsTo program policy annotations frame to asked

    -- an instruction that is reached, and whose note is tested
    leads : (to : ℕ) (asked : Asked) → reached program annotations.typing frame.class frame.method to ≡ true
        → note_passes (meets the_rules) told asked to ≡ true → Leads to asked
    leads to asked reaches passes =
        let p = passed_by (meets the_rules asked) (slice_get told to) passes in
        record {
          note = p.0;
          told = note_there program policy annotations frame.class frame.method to p.0 reaches
              (told_in_method program policy annotations frame.class frame.method frame.at next n.i to ∙ p.1);
          meets = p.2;
        }

    here_is : IsAt program frame.class frame.method frame.at next.0 next.1
    here_is = record { of = n.i.m; there = n.i.method_there; is = rw (n.i.insn_there, n.i.ref_there) refl }

    goes_to : (to : ℕ) → Contains (successors frame.at next.0) to → reached program annotations.typing frame.class frame.method to ≡ true
    goes_to to among = o.closed.next frame.class frame.method frame.at next.0 next.1 n.reaches here_is to among

    -- ---- what comes next

    abbrev next_passes : Bool
    next_passes = next_pass (meets the_rules) told its_row here

    abbrev handlers_agree : Bool
    handlers_agree = handlers_pass (meets the_rules) told its_row n.i.m here

    -- the last rule: there is a row, and the next instructions and the handlers are as it has them
    last_rule : (is_some its_row ≡ true) × (next_passes ≡ true) × (handlers_agree ≡ true)
    last_rule =
        let begins = not (frame.at == 0) || is_open the_rules.held the_rules.policy note in
        let whole = and_parts (is_some its_row) ((next_passes && handlers_agree) && begins) n.hold.1.1.1.1.1.1.1.0 in
        let both = and_parts next_passes handlers_agree ((and_parts (next_passes && handlers_agree) begins whole.1).0) in
        (whole.0, both.0, both.1)

    abbrev past_passes : Bool
    past_passes = note_passes (meets the_rules) told (past_of its_row) (frame.at + 1)

    abbrev jump_passes : ℕ → Bool
    jump_passes to = note_passes (meets the_rules) told (jump_of its_row) to

    next_parts : ((not (goes_on (opcode_of next.0)) || past_passes) ≡ true) × (list_all jump_passes (jump_targets next.0) ≡ true)
    next_parts = and_parts (not (goes_on (opcode_of next.0)) || past_passes) (list_all jump_passes (jump_targets next.0)) last_rule.1

    past_leads : (r : Row) → its_row ≡ Some r → goes_on (opcode_of next.0) ≡ true → Leads (frame.at + 1) r.past
    past_leads r has goes =
        let passes = if_so (goes_on (opcode_of next.0)) past_passes next_parts.0 goes in
        let first : successors frame.at next.0 ≡ (frame.at + 1) ∷ jump_targets next.0 = rw goes refl in
        leads (frame.at + 1) r.past (goes_to (frame.at + 1) (rw first (0, omega arith, refl))) (rw has at passes)

    jump_leads : (r : Row) → its_row ≡ Some r → (to : ℕ) → Contains (jump_targets next.0) to → Leads to r.jump
    jump_leads r has to among =
        let passes = all_passed jump_passes (jump_targets next.0) to next_parts.1 among in
        let past : List ℕ = if goes_on (opcode_of next.0) then (frame.at + 1) ∷ [] else [] in
        leads to r.jump (goes_to to (Contains-append_right past (jump_targets next.0) to among)) (rw has at passes)

    -- ---- handlers

    -- the handler that is found is one of the method's, and is reached
    record Takes (class : Name) (handler : Handler) : Type 0 where
      pub found : find (catches program frame.at class) n.i.m.handlers ≡ Some handler
      pub among : Contains n.i.m.handlers handler
      pub covers : covers frame.at handler ≡ true
      pub reaches : reached program annotations.typing frame.class frame.method handler.at ≡ true

    takes : (class : Name) (handler : Handler) → handler_of program frame class ≡ Some handler → Takes class handler
    takes class handler e =
        let found : find (catches program frame.at class) n.i.m.handlers ≡ Some handler = rw n.i.method_there at e in
        let is = find_is (catches program frame.at class) n.i.m.handlers handler found in
        let covered = caught_at program frame.at class n.i.m.handlers handler found in
        record {
          found = found;
          among = is.0;
          covers = catching_covers program frame.at class handler is.1;
          reaches = o.closed.caught frame.class frame.method frame.at n.i.m handler n.reaches n.i.method_there is.0 covered.1 covered.2;
        }

    caught_leads : (r : Row) → its_row ≡ Some r → (class : Name) (handler : Handler) → handler_of program frame class ≡ Some handler → Leads handler.at r.thrown
    caught_leads r has class handler e =
        let t = takes class handler e in
        let of_row : list_all (note_passes (meets the_rules) told r.thrown) (handlers_of frame.at n.i.m.handlers) ≡ true = rw has at last_rule.2 in
        leads handler.at r.thrown t.reaches (taking_passes program frame.at class (note_passes (meets the_rules) told r.thrown) n.i.m.handlers handler of_row t.found)

    -- ---- room for what is caught

    abbrev frames : Frames
    frames = frames_in n.i.c.methods (frames_told annotations.typing frame.class) frame.method

    abbrev place : InsnPlace
    place = place_at program frame.class n.i.c n.i.m frame.at next.0

    row_typed : (f : FrameType) → frame_of frames frame.at ≡ Some f → Caught frames place f ≡ true
    row_typed f e =
        let same : row_fault program annotations.typing frame.class frame.method frame.at ≡ row_failing frames place (frame_of frames frame.at) =
        rw (n.i.class_there, n.i.in_class, n.i.insn_there) refl in
        caught_well frames place f (ap (row_failing frames place) (sym e) ∙ sym same ∙ o.accepted.typed frame.class frame.method frame.at)

    room_for : (class : Name) (handler : Handler) → handler_of program frame class ≡ Some handler → 0 < n.i.m.max_stack
    room_for class handler e =
        let t = takes class handler e in
        let f = it_is_there (frame_of frames frame.at) (has_frame program policy annotations frame.class frame.method frame.at next n.i n.reaches) in
        let handled = all_passed (is_handled frames place f.0) n.i.m.handlers handler (row_typed f.0 f.1) t.among in
        let caught = is_below program (class_caught handler) throwable && option_map_or (catches_frame place f.0 handler) (frame_of frames handler.at) false in
        let room = if_so (covers frame.at handler) (nat_le 1 n.i.m.max_stack && caught) handled t.covers in
        leb-true 1 n.i.m.max_stack (and_parts (nat_le 1 n.i.m.max_stack) caught room).0

    -- ---- the client, and calls

    left_alone : is_free note ≡ true → variable_named the_rules.state next.1 ≡ None
    left_alone free =
        let alone = not (is_some (variable_named the_rules.state next.1)) in
        let pushed = not (pushes_state (shape_of next.0) next.1) || next_pass is_asked_taking told None here in
        not_there (variable_named the_rules.state next.1) ((and_parts alone pushed (if_so (is_free note) (alone && pushed) n.hold.0 free)).0)

    abbrev call_granted : Bool
    call_granted = is_granted the_rules next.1 note

    abbrev call_unclaused : Bool
    call_unclaused = is_free note || (is_stop note && is_way_out next.1)

    called_well : calls (shape_of next.0) ≡ true → (if has_clause policy next.1 then call_granted else call_unclaused) ≡ true
    called_well call = if_so (calls (shape_of next.0)) (if has_clause policy next.1 then call_granted else call_unclaused) n.hold.1.0 call

    -- the first handler that covers the instruction
    abbrev first_passes : Bool
    first_passes = option_map_or (catches_all the_rules told note) (first_handler frame.at n.i.m.handlers) false

    -- Where an update is due for what a granted call throws, a handler takes it.
    all_caught : (method : ℕ) → next.1 ≡ target.ApiMethod method → calls (shape_of next.0) ≡ true → has_clause policy next.1 ≡ true → is_duty the_rules method ≡ true
        → (class : Name) → (handler : Handler) × (handler_of program frame class ≡ Some handler)
    all_caught method names call clause due class =
        let is_due : is_duty_of the_rules next.1 ≡ true = rw names due in
        let asked = and_from (calls (shape_of next.0)) (has_clause policy next.1 && is_duty_of the_rules next.1) call
        (and_from (has_clause policy next.1) (is_duty_of the_rules next.1) clause is_due) in
        let first = passed_by (catches_all the_rules told note) (first_handler frame.at n.i.m.handlers)
        (if_so (calls (shape_of next.0) && (has_clause policy next.1 && is_duty_of the_rules next.1)) first_passes n.hold.1.1.0 asked) in
        let owed = option_map_or (λ (m : Note). is_owed_for_throw m || meets the_rules (thrown_by the_rules note) m) (slice_get told first.0.at) false in
        let any = not-true (is_some first.0.class) (and_parts (not (is_some first.0.class)) owed first.2).0 in
        let taken = first_takes program frame.at class n.i.m.handlers first.0 first.1 any in
        (taken.0, rw n.i.method_there taken.1)

  pub rules_hold : RulesHold program policy annotations
  rules_hold frame next note e is_told =
      let m = and_then_of (λ (m : Method). insn_in m frame.at) (method_at program frame.class frame.method) next e in
      let n = is_noted frame.class frame.method frame.at m.0 next note m.1 m.2 is_told in
      let r = it_is_there (its_row frame next note n) (last_rule frame next note n).0 in
      let granted = call_granted frame next note n in
      let unclaused = call_unclaused frame next note n in
      record {
        of = n.i.m;
        there = n.i.method_there;
        r = r.0;
        has = r.1;
        alone = left_alone frame next note n;
        granted = λ call clause. chosen (has_clause policy next.1) granted unclaused (called_well frame next note n call) clause;
        unclaused = λ call none. not_chosen (has_clause policy next.1) granted unclaused (called_well frame next note n call) none;
        past = past_leads frame next note n r.0 r.1;
        jump = jump_leads frame next note n r.0 r.1;
        caught = caught_leads frame next note n r.0 r.1;
        room = room_for frame next note n;
        duty = all_caught frame next note n;
      }

  -- ---- the beginning of a method

  first_insn : (class method : ℕ) (of : Method) → method_at program class method ≡ Some of → 0 < length of.insns → (next : Insn × Target) × (insn_in of 0 ≡ Some next)
  first_insn class method of there some =
      let c = and_then_of (λ (c : LinkedClass). slice_get c.methods method) (slice_get program.classes class) of there in
      let well : IsSoundMethod of = all_get IsSoundMethod c.0.methods method of (all_get IsSoundClass program.classes class c.0 o.sound.classes c.1).methods c.2 in
      let insn = get_within of.insns 0 some in
      let ref = get_within of.refs 0 (omega (arith, well.refs, some)) in
      ((insn.0, ref.0), rw (insn.1, ref.1) refl)

  note_begins : (class method : ℕ) (next : Insn × Target) (i : IsIn program policy annotations class method 0 next) → reached program annotations.typing class method 0 ≡ true
      → (note : Note) × (note_at program annotations class method 0 ≡ Some note)
  note_begins class method next i reaches =
      let told : List Note = notes_of program policy annotations i.c class method in
      let there = is_told_there the_rules told i.m (here_at program policy annotations 0 next) (slice_get told 0)
      (fault_free program policy annotations class method 0 next i reaches (o.accepted.noted class method 0)) in
      (there.0, note_there program policy annotations class method 0 there.0 reaches (told_in_method program policy annotations class method 0 next i 0 ∙ there.1))

  begins_in_none : (class method : ℕ) (next : Insn × Target) (note : Note) → IsNoted class method 0 next note → is_open annotations.held policy note ≡ true
  begins_in_none class method next note n =
      let its_row = row the_rules note (shape_of next.0) next.1 in
      let passes = all_pass (meets the_rules) (notes_of program policy annotations n.i.c class method) its_row n.i.m (here_at program policy annotations 0 next) in
      let begins = is_open annotations.held policy note in
      (and_parts passes begins ((and_parts (is_some its_row) (passes && begins) n.hold.1.1.1.1.1.1.1.0).1)).1

  pub begins_open : BeginsOpen program policy annotations
  begins_open class method of there some =
      let next = first_insn class method of there some in
      let i = is_in program policy annotations class method 0 of next.0 there next.1 in
      let note = note_begins class method next.0 i (o.closed.begin class method of there some) in
      let n = is_noted class method 0 of next.0 note.0 there next.1 note.1 in
      (note.0, note.1, begins_in_none class method next.0 note.0 n)
