-- Returns: the result fits its type, and the caller goes on after its call with it, or the thread rests.
use Rattle.std.proofs.Common.{◌≡◌, ℕ, ◌+◌, Bool, true, false, cond, List, [], ◌∷◌, ◌++◌, length, map, reverse, Option, Some, None, refl, sym, ap, subst, ◌∙◌, arith}
use Rattle.std.specs.Prelude.{bytes_eq, codes}
use Rattle.std.specs.List.{AllByRecursion}
use Rattle.std.specs.Option.{option_map_or, option_to_list}
use Rattle.std.proofs.lemmas.Bool.{and_parts}
use Rattle.std.proofs.lemmas.List.{length-append, length-map, length-reverse}
use Rattle.api_listing.specs.declared.events.Event.{Event}
use Rattle.cert_format.specs.declared.typing.Typing.{Typing}
use Rattle.cert_format.specs.declared.typing.VType.{VType}
use Rattle.cert_format.specs.declared.typing.VType.TheVariants as types
use Rattle.insn_codec.specs.declared.shape.Heap.TheVariants as heap_shapes
use Rattle.insn_codec.specs.declared.shape.ValueKind.{ValueKind}
use Rattle.insn_codec.specs.declared.shape.ValueKind.TheVariants as kinds
use Rattle.insn_codec.specs.declared.shape.Shape.{Shape}
use Rattle.insn_codec.specs.declared.shape.Shape.TheVariants as shapes
use Rattle.insn_codec.specs.Following.{Paired}
use Rattle.insn_codec.specs.Shapes.{shape_of}
use Rattle.insn_codec.specs.Table.{ends}
use Rattle.bytecode_model.specs.declared.program.LinkedClass.{LinkedClass}
use Rattle.bytecode_model.specs.declared.program.Method.{Method}
use Rattle.bytecode_model.specs.declared.program.Program.{Program}
use Rattle.bytecode_model.specs.Described.{result_text, result_type, type_described}
use Rattle.bytecode_model.specs.Assigning.{assignable}
use Rattle.bytecode_model.specs.Makes.{below, call_yields, changed, yields, yields_of}
use Rattle.bytecode_model.specs.InsnPlace.{desc_referred}
use Rattle.bytecode_model.specs.Rules.{taken}
use Rattle.bytecode_model.specs.Wants.{all_met, is_result_of, returns_well, takes, takes_of, to_result}
use Rattle.guest_heap.specs.declared.frame.Frame.{Frame}
use Rattle.guest_heap.specs.declared.object.Object.{Object}
use Rattle.guest_heap.specs.declared.thread.Thread.{Thread}
use Rattle.guest_heap.specs.declared.value.Value.{Value}
use Rattle.guest_frames.specs.Stepping.{after, moved_to}
use Rattle.guest_model.specs.Parts.{result_of}
use Rattle.guest_frames.specs.Values.{fits}
use Rattle.guest_model.specs.Changes.{Change, World, goes, rests_now, returned, with_event}
use Rattle.guest_model.specs.Moving.{CanReturn, HasOne, HasRoom, IsNumber, IsReference}
use Rattle.typed_runs.specs.Fitting.{fits_made, fits_type}
use Rattle.typed_runs.specs.Frames.{AreRunning, AreWaiting, IsReady, IsWaiting, stands_at}
use Rattle.typed_runs.specs.Machines.{BeginsRight, CanBegin}
use Rattle.typed_runs.specs.Programs.{IsTypedProgram}
use Rattle.typed_runs.proofs.Changed.{ChangeFits, SeesNumbers, WorldFits, event_fits, goes_fits}
use Rattle.typed_runs.proofs.Entering.{rests_fits}
use Rattle.typed_runs.proofs.Going.{after_fits, heap_holds, runs_after, went}
use Rattle.typed_runs.proofs.Pairs.{paired_length}
use Rattle.typed_runs.proofs.Rows.{rules}
use Rattle.typed_runs.proofs.Topmost.{one_taken}
use Rattle.typed_runs.proofs.Types.{described_told, number_is, reference_is, told_fits, type_fits_over, wanted_reference}

-- ---- results

-- a result of the type, or none where there is none
abbrev pub ResultFits : Program → List Object → Option VType → Option Value → Type 0
ResultFits program heap None None = Unit {0}
ResultFits program heap None (Some v) = ⊥
ResultFits program heap (Some t) None = ⊥
ResultFits program heap (Some t) (Some v) = fits_made program heap v t ≡ true

-- how many operands a result is
abbrev pub many_results : Option VType → ℕ
many_results None = 0
many_results (Some t) = 1

module _ (program : Program) (heap : List Object) (class : LinkedClass) (method : Method) where
  one_pairs : (t : VType) (v : Value) → fits_type program heap class method v t ≡ fits_made program heap v t → fits_made program heap v t ≡ true
      → Paired (fits_type program heap class method) (v ∷ []) (t ∷ [])
  one_pairs t v same h = (same ∙ h, tt)

  pairs_by : (void : Bool) (t : VType) (result : Option Value) → ((v : Value) → fits_type program heap class method v t ≡ fits_made program heap v t)
      → ResultFits program heap (cond void None (Some t)) result
      → Paired (fits_type program heap class method) (option_to_list result) (reverse (call_yields (cond void None (Some t))))
  pairs_by true t None same h = tt
  pairs_by true t (Some v) same h = absurd h
  pairs_by false t None same h = absurd h
  pairs_by false t (Some v) same h = one_pairs t v (same v) h

  -- what a call yields
  pub result_pairs : (desc : List ℕ) (result : Option Value) → ResultFits program heap (result_type desc) result
      → Paired (fits_type program heap class method) (option_to_list result) (reverse (call_yields (result_type desc)))
  result_pairs desc result h =
      pairs_by (bytes_eq (result_text desc) (codes "V")) (type_described (result_text desc)) result
      (λ v. told_fits program heap class method v (type_described (result_text desc)) (described_told program (result_text desc))) h

-- ---- callers

module _ (program : Program) (typing : Typing) (ok : IsTypedProgram program typing) (heap : List Object) where
  -- A caller goes on after its call with the result.
  pub resumed : (frame : Frame) (type : Option VType) (w : IsWaiting program typing heap type frame) (under : List Frame)
      → AreWaiting program typing heap (result_type w.stands.method.desc) under → (result : Option Value) → ResultFits program heap type result
      → (f : Frame) × (after frame (option_to_list result ++ frame.stack.items) ≡ Some f) × AreRunning program typing heap (f ∷ under)
  resumed frame type w under waiting result fits =
      let s = w.stands in
      let place = stands_at s in
      let of : Value → VType → Bool = fits_type program heap s.class s.method in
      let items : List Value = option_to_list result ++ frame.stack.items in
      let q : Paired of (option_to_list result) (reverse (yields place s.type.locals (taken place s.type))) =
      subst (λ (x : Shape). Paired of (option_to_list result) (reverse (yields_of place s.type.locals (taken place s.type) x))) (sym w.calls)
      (result_pairs program heap s.class s.method (desc_referred place) result (subst (λ (t : Option VType). ResultFits program heap t result) (sym w.gives) fits)) in
      let h = heap_holds program heap place s.type (heap_shapes.Call w.how) w.calls frame.locals frame.stack.items (option_to_list result) w.locals w.operands q in (
        moved_to frame (frame.at + 1) frame.locals items,
        went program typing ok heap frame s (frame.at + 1) frame.locals items h,
        runs_after program typing ok heap frame s items under (ap ends w.calls) h waiting,
      )

  -- and has room for it
  pub has_room : (type : Option VType) (frames : List Frame) → AreWaiting program typing heap type frames → HasRoom (many_results type) frames
  has_room type [] waiting = tt
  has_room type (frame ∷ under) waiting =
      let w = waiting.0 in
      let s = w.stands in
      let place = stands_at s in
      let n = length (takes place) in
      let pushed = yields place s.type.locals (taken place s.type) in
      let many : length frame.stack.items ≡ length (below n s.type.stack) =
      paired_length (fits_type program heap s.class s.method) frame.stack.items (reverse (below n s.type.stack)) w.operands ∙ length-reverse (below n s.type.stack) in
      let by_call : length pushed ≡ length (call_yields (result_type (desc_referred place))) =
      ap (λ (x : Shape). length (yields_of place s.type.locals (taken place s.type) x)) w.calls in
      let yields_many : (t : Option VType) → length (call_yields t) ≡ many_results t = as_many in
      let long : length pushed ≡ many_results type = by_call ∙ yields_many (result_type (desc_referred place)) ∙ ap many_results w.gives in
      let stays = map (changed place (taken place s.type)) (below n s.type.stack) in
      omega (
        arith,
        many,
        long,
        length-append stays pushed,
        length-map (below n s.type.stack) (changed place (taken place s.type)),
        after_fits program typing ok heap frame s,
      )
    where
      as_many : (t : Option VType) → length (call_yields t) ≡ many_results t
      as_many None = refl
      as_many (Some t) = refl

-- ---- changes

module _ (program : Program) (typing : Typing) (ok : IsTypedProgram program typing) where
  -- The caller goes on, or the thread rests.
  pub returned_fits : (old : List Object) (world : World) (thread : Thread) (frames : List Frame) (type : Option VType) (result : Option Value)
      (event : Option Event) → SeesNumbers program event
      → WorldFits program old world → BeginsRight program world.heap → AllByRecursion (CanBegin program) thread.to_begin
      → AreWaiting program typing world.heap type frames → ResultFits program world.heap type result
      → (change : Change) × (returned program world thread frames result event ≡ Some change) × ChangeFits program typing old change
  returned_fits old world thread [] type result event seen fits first later waiting given = (
    with_event (rests_now program world thread) event,
    refl,
    record { world = fits; thread = rests_fits program typing ok world.heap first thread.to_begin later; begins = tt; seen = seen },
  )
  returned_fits old world thread (caller ∷ under) type result event seen fits first later waiting given =
      let r = resumed program typing ok world.heap caller type waiting.0 under waiting.1 result given in (
        with_event (goes world thread (r.0 ∷ under)) event,
        rw r.1 refl,
        event_fits program typing old (goes world thread (r.0 ∷ under)) event seen (goes_fits program typing old world thread (r.0 ∷ under) fits later r.2),
      )

  -- ---- a frame that returns

  result_by : (heap : List Object) (class : LinkedClass) (method : Method) (k : ValueKind) (type : Option VType) (v : Value) (t : VType)
      → is_result_of (Some k) type ≡ true → option_map_or (λ (r : VType). assignable program t r) type false ≡ true
      → fits_type program heap class method v t ≡ true → ResultFits program heap type (Some v) × (fits k v ≡ true)
  result_by heap class method kinds.Int (Some types.Int) v t e f h =
      let number = type_fits_over program ok.links.order heap class method v t types.Int f h in (number, number)
  result_by heap class method kinds.Reference (Some (types.Ref name)) v t e f h =
      let is = type_fits_over program ok.links.order heap class method v t (types.Ref name) f h in
      (is, wanted_reference program heap class method v (types.Ref name) is refl)
  result_by heap class method k type v t e f h = absurd cc

  none_returned : (type : Option VType) → is_result_of None type ≡ true → type ≡ None
  none_returned None e = refl
  none_returned (Some t) e = absurd cc

  -- What a return of this kind gives, and that it can be made.
  pub record ListedResult (heap : List Object) (type : Option VType) (kind : Option ValueKind) (items : List Value) : Type 0 where
    pub result : Option Value
    pub is : result_of kind items ≡ Some result
    pub fits_result : ResultFits program heap type result
    pub can : (under : List Frame) → AreWaiting program typing heap type under → CanReturn kind items under

  pub some_result : (heap : List Object) (type : Option VType) (v : Value) → ResultFits program heap type (Some v) → many_results type ≡ 1
  some_result heap None v h = absurd h
  some_result heap (Some t) v h = refl

  result_given : (k : ValueKind) (items : List Value) (v : Value) (rest : List Value) → items ≡ v ∷ rest → fits k v ≡ true
      → result_of (Some k) items ≡ Some (Some v)
  result_given k items v rest e h = rw (e, h) refl

  can_by : (k : ValueKind) (items : List Value) (v : Value) (rest : List Value) (under : List Frame) → items ≡ v ∷ rest → fits k v ≡ true → HasRoom 1 under
      → CanReturn (Some k) items under
  can_by kinds.Int items v rest under e h room = (subst (HasOne IsNumber) (sym e) (number_is program v h), room)
  can_by kinds.Reference items v rest under e h room = (subst (HasOne IsReference) (sym e) (reference_is program v h), room)

  module _ (heap : List Object) (frame : Frame) (r : IsReady program typing heap frame) where
    gives_none : shape_of r.stands.insn ≡ shapes.Heap (heap_shapes.Return None) → ListedResult heap (result_type r.stands.method.desc) None frame.stack.items
    gives_none shape =
        let place = stands_at r.stands in
        let well = (and_parts (all_met (takes place) (taken place r.stands.type)) (returns_well place (shape_of place.insn)) (rules program typing ok frame r.stands).operand).1 in
        let none = none_returned (result_type r.stands.method.desc) (subst (λ (x : Shape). returns_well place x ≡ true) shape well) in
        record {
          result = None;
          is = refl;
          fits_result = subst (λ (t : Option VType). ResultFits program heap t None) (sym none) tt;
          can = λ under waiting. subst (λ (t : Option VType). HasRoom (many_results t) under) none (has_room program typing ok heap (result_type r.stands.method.desc) under waiting);
        }

    gives_one : (k : ValueKind) → shape_of r.stands.insn ≡ shapes.Heap (heap_shapes.Return (Some k))
        → ListedResult heap (result_type r.stands.method.desc) (Some k) frame.stack.items
    gives_one k shape =
        let place = stands_at r.stands in
        let type = result_type r.stands.method.desc in
        let well = (and_parts (all_met (takes place) (taken place r.stands.type)) (returns_well place (shape_of place.insn)) (rules program typing ok frame r.stands).operand).1 in
        let one = one_taken program typing ok heap frame r (to_result place) (ap (takes_of place) shape) in
        let b = result_by heap r.stands.class r.stands.method k type one.value one.type (subst (λ (x : Shape). returns_well place x ≡ true) shape well) one.met one.fits in
        record {
          result = Some one.value;
          is = result_given k frame.stack.items one.value one.below one.items_are b.1;
          fits_result = b.0;
          can = λ under waiting. can_by k frame.stack.items one.value one.below under one.items_are b.1
              (subst (λ (n : ℕ). HasRoom n under) (some_result heap type one.value b.0) (has_room program typing ok heap type under waiting));
        }

    pub gives : (kind : Option ValueKind) → shape_of r.stands.insn ≡ shapes.Heap (heap_shapes.Return kind)
        → ListedResult heap (result_type r.stands.method.desc) kind frame.stack.items
    gives None shape = gives_none shape
    gives (Some k) shape = gives_one k shape
