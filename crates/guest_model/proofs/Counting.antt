-- Each step adds at most one object to the heap and at most one thread, and the library sees numbers of the heap.
use Rattle.std.proofs.Common.{◌≡◌, ◌≤◌, ◌<◌, ℕ, zero, suc, ◌+◌, cond, List, [], ◌∷◌, ◌++◌, length, drop, map, Option, Some, None, refl, subst, ap, int_eq, arith}
use Rattle.std.specs.Prelude.{ℤ, pos, negsuc, codes, Bool, true, false, Result, Ok, Err, is_some, nat_lt, slice_get, slice_set, option_map, option_and_then}
use Rattle.std.specs.List.{AllByRecursion}
use Rattle.std.specs.Option.{option_map_or, option_to_list}
use Rattle.std.proofs.lemmas.List.{length-append, length-map}
use Rattle.std.proofs.lemmas.Option.{slice_get_within}
use Rattle.api_listing.specs.declared.events.ApiValue.{ApiValue}
use Rattle.api_listing.specs.declared.events.ApiValue.TheVariants as api
use Rattle.api_listing.specs.declared.events.ApiAnswer.TheVariants as answers
use Rattle.api_listing.specs.declared.events.Event.{Event}
use Rattle.api_listing.specs.declared.events.Event.TheVariants as events
use Rattle.api_listing.specs.declared.events.ApiAnswer.{ApiAnswer}
use Rattle.insn_codec.specs.declared.insn.Insn.{Insn}
use Rattle.insn_codec.specs.declared.shape.Heap.{Heap}
use Rattle.insn_codec.specs.declared.shape.Heap.TheVariants as heap
use Rattle.insn_codec.specs.declared.shape.How.{How}
use Rattle.insn_codec.specs.declared.shape.How.TheVariants as hows
use Rattle.insn_codec.specs.declared.shape.ValueKind.{ValueKind}
use Rattle.insn_codec.specs.Shapes.{shape_of}
use Rattle.bytecode_model.specs.declared.program.Method.{Method}
use Rattle.bytecode_model.specs.declared.program.Program.{Program}
use Rattle.bytecode_model.specs.declared.program.Target.{Target}
use Rattle.bytecode_model.specs.declared.program.Target.TheVariants as target
use Rattle.bytecode_model.specs.Arrays.{array_of}
use Rattle.bytecode_model.specs.Makes.{array_named}
use Rattle.bytecode_model.specs.SearchOrder.{Name}
use Rattle.guest_frames.specs.Stepping.{after, frame_stepped}
use Rattle.guest_heap.specs.declared.frame.Frame.{Frame}
use Rattle.guest_heap.specs.declared.object.Monitor.{Monitor}
use Rattle.guest_heap.specs.declared.thread.Doing.{Doing}
use Rattle.guest_heap.specs.declared.thread.Doing.TheVariants as doings
use Rattle.guest_heap.specs.declared.thread.Thread.{Thread}
use Rattle.guest_heap.specs.declared.value.Value.{Value}
use Rattle.guest_heap.specs.declared.value.Value.TheVariants as values
use Rattle.guest_model.specs.declared.builtin.Builtin.{Builtin}
use Rattle.guest_model.specs.declared.builtin.Builtin.TheVariants as builtins
use Rattle.guest_model.specs.declared.machine.Choice.{Choice}
use Rattle.guest_model.specs.declared.machine.Choice.TheVariants as choices
use Rattle.guest_model.specs.declared.machine.Machine.{Machine}
use Rattle.guest_model.specs.declared.machine.Step.{Step}
use Rattle.guest_model.specs.Answering.{answer_fits, answered, given, returned_by, thrown_by}
use Rattle.guest_model.specs.Builtins.{builtin_at, characters}
use Rattle.guest_model.specs.Calls.{arity, taken}
use Rattle.guest_model.specs.Finding.{Given, is_run, method_run}
use Rattle.guest_model.specs.Kinds.{class_of_value, is_thread}
use Rattle.guest_model.specs.Monitors.{entered, left}
use Rattle.guest_model.specs.Places.{insn_at, method_at}
use Rattle.guest_model.specs.Stepping.{Acting, acts_on, acts_throwing, call_stepped, changed, comes_to, doing_stepped, enters, frames_stepped, heap_in, heap_stepped, insn_stepped, is_on_null, leaves, left_with, returns, running_stepped, throws_top, operates}
use Rattle.insn_codec.specs.declared.shape.Item.{Item}
use Rattle.insn_codec.specs.declared.shape.ValueKind.TheVariants as kinds
use Rattle.guest_frames.specs.Values.{is_null}
use Rattle.guest_heap.specs.Heap.{places_of, with_value, with_value_at}
use Rattle.guest_heap.specs.declared.object.Object.{Object}
use Rattle.guest_heap.specs.declared.object.Object.TheVariants as objects
use Rattle.mon_base.specs.declared.method.MethodId.{MethodId}
use Rattle.guest_model.specs.Calling.{Calling, aimed_at, aims, built_in, call_throws, calls_given, calls_library, calls_named, desc_named, enters_on, goes_past, has_ended, is_static_call, joined, joins, lacked, lacking, on_receiver, run_of, runs, runs_object, runs_target, second_start, started, started_as, starts, stopped_by, target_of, thread_of_value, waiting, with_changed}
use Rattle.guest_model.specs.Changes.{Change, World, applied, ends_thread, enters_method, goes, lock_of, lock_taken, returned, throws_new, with_heap, with_monitors, world_of}
use Rattle.guest_model.specs.Counting.{FewAreAdded, IsNumberedBelow, IsResultBelow, SeesFewObjects, ShowsBelow, StepsAddOne}
use Rattle.guest_model.specs.Layout.{new_of}
use Rattle.guest_model.specs.Parts.{bad_monitor, constant_value, null_pointer, result_of}
use Rattle.guest_model.specs.Runs.{exec_from, first_heap, inner, seen, start_of, stepped_or_same, trace_from}
use Rattle.guest_model.specs.Seen.{object_shown, string_of, value_shown}
use Rattle.guest_model.specs.Throwing.{bare_object}
use Rattle.guest_model.specs.HeapOperations.{ArrayAt, HeapResult, array_in, array_made, bad_division, bad_item, bad_place, bad_size, casts, divides, has_items, is_cast, item_kind, item_read, item_written, kept, length_told, makes_array, may_hold, name_named, number_operand, on_array, on_items, on_object, operand_of, place_among, place_named, reads_field, reads_item, reads_static, static_written, heap_result, writes_field, writes_item, writes_static}
use Rattle.guest_model.proofs.Options.{IfThere, all_append, all_map, if_either, if_made, if_mapped, if_none, if_some, if_then, is_there, map_of, there_or}

-- ---- lists

-- one more
longer : {A : Type 0} (xs : List A) (x : A) (n : ℕ) → length xs ≤ n → length (xs ++ x ∷ []) ≤ suc n
longer xs x n h = let e = length-append xs (x ∷ []) in omega (arith, e, h)

set_long : {A : Type 0} (xs : List A) (i : ℕ) (x : A) → length (slice_set xs i x) ≡ length xs
set_long [] i x = refl
set_long (y ∷ xs) zero x = refl
set_long (y ∷ xs) (suc i) x = ap (λ (n : ℕ). suc n) (set_long xs i x)

at_most_one : {A : Type 0} (xs : List A) (o : Option A) → length (xs ++ option_to_list o) ≤ suc (length xs)
at_most_one xs None = let e = length-append xs [] in omega (arith, e)
at_most_one xs (Some x) = let e = length-append xs (x ∷ []) in omega (arith, e)

placed_long : (heap : List Object) (at place : ℕ) (v : Value) → length (with_value_at heap at place v) ≡ length heap
placed_long heap at place v =
    there_or (λ (xs : List Object). length xs ≡ length heap) (λ (object : Object). slice_set heap at (with_value place v object))
    (slice_get heap at) heap refl (λ object e. set_long heap at (with_value place v object))

changed_long : (heap : List Object) (v : Value) (f : Object → Object) → length (with_changed heap v f) ≡ length heap
changed_long heap (values.Int n) f = refl
changed_long heap values.Null f = refl
changed_long heap (values.Ref at) f =
    there_or (λ (xs : List Object). length xs ≡ length heap) (λ (object : Object). slice_set heap at (f object)) (slice_get heap at) heap refl
    (λ object e. set_long heap at (f object))
changed_long heap (values.Class index) f = refl
changed_long heap (values.Lit index) f = refl

-- ---- what the library sees

below_more : (n k : ℕ) (v : ApiValue) → n ≤ k → IsNumberedBelow n v → IsNumberedBelow k v
below_more n k (api.Int value) le h = tt
below_more n k api.Null le h = tt
below_more n k (api.Text text) le h = tt
below_more n k (api.Obj class at) le h = omega (arith, le, h)
below_more n k (api.Class name) le h = tt

all_more : (n k : ℕ) (vs : List ApiValue) → n ≤ k → AllByRecursion (IsNumberedBelow n) vs → AllByRecursion (IsNumberedBelow k) vs
all_more n k [] le all = tt
all_more n k (v ∷ vs) le all = (below_more n k v le all.0, all_more n k vs le all.1)

shows_more : (n k : ℕ) (event : Event) → n ≤ k → ShowsBelow n event → ShowsBelow k event
shows_more n k (events.Call thread method arguments) le h = all_more n k arguments le h
shows_more n k (events.Return thread method None) le h = tt
shows_more n k (events.Return thread method (Some v)) le h = below_more n k v le h
shows_more n k (events.Except thread method) le h = tt

module _ (program : Program) where
  object_below : (n at : ℕ) (object : Object) → at < n → IsNumberedBelow n (object_shown program at object)
  object_below n at (objects.Plain class fields on thread) h = plain_below _ class where
    plain_below : (b : Bool) (class : Name) → IsNumberedBelow n (cond b (api.Text []) (api.Obj class at))
    plain_below true class = tt
    plain_below false class = h
  object_below n at (objects.Array desc items) h = h
  object_below n at (objects.Text text) h = tt

  value_below : (heap : List Object) (n : ℕ) (v : Value) → length heap ≤ n → IsNumberedBelow n (value_shown program heap v)
  value_below heap n (values.Int value) le = tt
  value_below heap n values.Null le = tt
  value_below heap n (values.Ref at) le =
      there_or (IsNumberedBelow n) (object_shown program at) (slice_get heap at) api.Null tt
      (λ object e. object_below n at object (let within : at < length heap = slice_get_within heap at object e in omega (arith, le, within)))
  value_below heap n (values.Class index) le = tt
  value_below heap n (values.Lit index) le = tt

  result_below : (heap : List Object) (n : ℕ) (o : Option Value) → length heap ≤ n → IsResultBelow n (option_map (value_shown program heap) o)
  result_below heap n None le = tt
  result_below heap n (Some v) le = value_below heap n v le

  module _ (machine : Machine) where
    abbrev old : ℕ
    old = length machine.heap

    -- there are no more objects than before, and at most one more
    abbrev HasOld : World → Type 0
    HasOld world = length world.heap ≤ old

    abbrev HasNew : World → Type 0
    HasNew world = length world.heap ≤ suc old

    is_old : HasOld (world_of machine)
    is_old = omega arith

    of_old : (world : World) → HasOld world → HasNew world
    of_old world h = omega (arith, h)

    abbrev SeenBelow : Option Event → Type 0
    SeenBelow None = Unit {0}
    SeenBelow (Some event) = ShowsBelow (suc old) event

    abbrev Few : Change → Type 0
    Few change = HasNew change.world × SeenBelow change.event

    abbrev FewIf : Option Change → Type 0
    FewIf change = IfThere Few change

    throws_few : (world : World) (number : ℕ) (thread : Thread) (frames : List Frame) (class : Name) (event : Option Event) → HasOld world
        → SeenBelow event → Few (throws_new program world number thread frames class event)
    throws_few world number thread frames class event h sees = (longer world.heap (bare_object class) old h, sees)

    went_few : (world : World) (thread : Thread) (below : List Frame) (frame : Option Frame) → HasNew world
        → FewIf (option_map (λ (f : Frame). goes world thread (f ∷ below)) frame)
    went_few world thread below frame h = if_mapped Few _ frame (λ f e. (h, tt))

    returned_few : (world : World) (thread : Thread) (frames : List Frame) (result : Option Value) (event : Option Event) → HasNew world
        → SeenBelow event → FewIf (returned program world thread frames result event)
    returned_few world thread [] result event h sees = if_some Few _ (h, sees)
    returned_few world thread (caller ∷ below) result event h sees = if_mapped Few _ (after caller _) (λ f e. (h, sees))

    -- ---- work on the heap

    abbrev Comes : Result (World × List Value) Name → Type 0
    Comes (Ok made) = HasNew made.0
    Comes (Err class) = Unit {0}

    abbrev ComesIf : HeapResult → Type 0
    ComesIf made = IfThere Comes made

    module _ (world : World) (was : HasOld world) (items : List Value) where
      stays : (list : List Value) → ComesIf (Some (Ok (world, list)))
      stays list = if_some Comes (Ok (world, list)) (of_old world was)

      thrown : (class : Name) → ComesIf (Some (Err class))
      thrown class = if_some Comes (Err class) tt

      in_array : (at : ℕ) (object : Object) (f : ArrayAt → HeapResult) → ((a : ArrayAt) → ComesIf (f a)) → ComesIf (option_and_then f (array_in at object))
      in_array at object f each = if_then Comes f (array_in at object) (λ a e. each a)

      array_comes : (v : Value) (f : ArrayAt → HeapResult) → ((a : ArrayAt) → ComesIf (f a)) → ComesIf (on_array world.heap v f)
      array_comes (values.Int n) f each = if_none Comes
      array_comes values.Null f each = thrown null_pointer
      array_comes (values.Ref at) f each = if_then Comes _ (slice_get world.heap at) (λ object e. in_array at object f each)
      array_comes (values.Class index) f each = if_none Comes
      array_comes (values.Lit index) f each = if_none Comes

      items_come : (item : Item) (v : Value) (f : ArrayAt → HeapResult) → ((a : ArrayAt) → ComesIf (f a)) → ComesIf (on_items item world.heap v f)
      items_come item v f each = array_comes v _ (λ a. if_either Comes (has_items item a.desc) (f a) None (each a) (if_none Comes))

      object_comes : (v : Value) (f : ℕ → List Value → HeapResult) → ((at : ℕ) (fields : List Value) → ComesIf (f at fields))
          → ComesIf (on_object world.heap v f)
      object_comes (values.Int n) f each = if_none Comes
      object_comes values.Null f each = thrown null_pointer
      object_comes (values.Ref at) f each = if_then Comes _ (slice_get world.heap at) (λ object e. each at (places_of object))
      object_comes (values.Class index) f each = if_none Comes
      object_comes (values.Lit index) f each = if_none Comes

      placed : (at place : ℕ) (v : Value) → length (with_value_at world.heap at place v) ≤ suc old
      placed at place v = let e = placed_long world.heap at place v in omega (arith, e, was)

      divides_comes : (remainder : Bool) → ComesIf (divides world remainder items)
      divides_comes remainder =
          if_then Comes _ (number_operand items 0)
          (λ y e. if_then Comes _ (number_operand items 1)
          (λ x f. if_either Comes (int_eq y (pos 0)) _ _ (thrown bad_division) (stays _)))

      item_comes : (a : ArrayAt) (index : ℤ) → ComesIf (item_read world a index (drop 2 items))
      item_comes a index = there_or ComesIf _ (option_and_then (slice_get a.items) (place_among (length a.items) index)) _ (thrown bad_place) (λ v e. stays _)

      read_item_comes : (item : Item) → ComesIf (reads_item item world items)
      read_item_comes item =
          if_then Comes _ (number_operand items 0)
          (λ index e. if_then Comes _ (slice_get items 1) (λ array f. items_come item array _ (λ a. item_comes a index)))

      write_comes : (a : ArrayAt) (place : ℕ) (v : Value) → ComesIf (item_written program world a place v (drop 3 items))
      write_comes a place v =
          if_either Comes (may_hold program world.heap a.desc v) _ _
          (if_some Comes (Ok (with_heap world (with_value_at world.heap a.at place (kept a.desc v)), drop 3 items)) (placed a.at place (kept a.desc v)))
          (thrown bad_item)

      write_item_comes : (item : Item) → ComesIf (writes_item item program world items)
      write_item_comes item =
          if_then Comes _ (operand_of (item_kind item) items 0)
          (λ v e. if_then Comes _ (number_operand items 1)
          (λ index f. if_then Comes _ (slice_get items 2)
          (λ array g. items_come item array _
          (λ a. there_or ComesIf _ (place_among (length a.items) index) _ (thrown bad_place) (λ place p. write_comes a place v)))))

      length_comes : ComesIf (length_told world items)
      length_comes = if_then Comes _ (slice_get items 0) (λ array e. array_comes array _ (λ a. stays _))

      made_comes : (desc : Name) (n : ℤ) → ComesIf (array_made world desc n (drop 1 items))
      made_comes desc (pos n) = if_some Comes _ (longer world.heap _ old was)
      made_comes desc (negsuc n) = thrown bad_size

      array_made_comes : (desc : Name) → ComesIf (makes_array world desc items)
      array_made_comes desc = if_then Comes _ (number_operand items 0) (λ n e. made_comes desc n)

      read_field_comes : (ref : Target) → ComesIf (reads_field program world ref items)
      read_field_comes ref =
          if_then Comes _ (place_named program ref)
          (λ place e. if_then Comes _ (slice_get items 0)
          (λ object f. object_comes object _ (λ at fields. if_mapped Comes _ (slice_get fields place) (λ v g. of_old world was))))

      write_field_comes : (ref : Target) → ComesIf (writes_field program world ref items)
      write_field_comes ref =
          if_then Comes _ (place_named program ref)
          (λ place e. if_then Comes _ (slice_get items 0)
          (λ v f. if_then Comes _ (slice_get items 1)
          (λ object g. object_comes object _ (λ at fields. if_mapped Comes _ (slice_get fields place) (λ before k. placed at place v)))))

      read_static_comes : (ref : Target) → ComesIf (reads_static program world ref items)
      read_static_comes (target.ApiField index) =
          if_either Comes (nat_lt index (length program.listing.fields)) _ _ (stays _) (if_none Comes)
      read_static_comes (target.Field class field) =
          if_mapped Comes _ (option_and_then (λ (fields : List Value). slice_get fields field) (slice_get world.statics class))
          (λ v e. of_old world was)
      read_static_comes target.None = if_none Comes
      read_static_comes (target.ApiMethod index) = if_none Comes
      read_static_comes (target.Builtin index) = if_none Comes
      read_static_comes (target.Method class method) = if_none Comes
      read_static_comes (target.ClassName name) = if_none Comes
      read_static_comes (target.Number n) = if_none Comes
      read_static_comes (target.Literal index) = if_none Comes

      static_has : (class field : ℕ) (v : Value) → IfThere HasNew (static_written world class field v)
      static_has class field v =
          if_then HasNew _ (slice_get world.statics class)
          (λ fields e. if_then HasNew _ (slice_get fields field) (λ before f. if_some HasNew _ (of_old world was)))

      write_static_comes : (ref : Target) → ComesIf (writes_static world ref items)
      write_static_comes (target.Field class field) =
          if_then Comes _ (slice_get items 0)
          (λ v e. if_made HasNew Comes _ (static_written world class field v) (λ new h. h) (static_has class field v))
      write_static_comes target.None = if_none Comes
      write_static_comes (target.ApiMethod index) = if_none Comes
      write_static_comes (target.Builtin index) = if_none Comes
      write_static_comes (target.Method class method) = if_none Comes
      write_static_comes (target.ApiField index) = if_none Comes
      write_static_comes (target.ClassName name) = if_none Comes
      write_static_comes (target.Number n) = if_none Comes
      write_static_comes (target.Literal index) = if_none Comes

      cast_or : (b : Bool) (class : Name) → Comes (cond b (Ok (world, items)) (Err class))
      cast_or true class = of_old world was
      cast_or false class = tt

      cast_comes : (name : Name) → ComesIf (casts program world name items)
      cast_comes name = if_mapped Comes _ (operand_of kinds.Reference items 0) (λ v e. cast_or (is_cast program world.heap v name) _)

      result_comes : (what : Heap) (ref : Target) → ComesIf (heap_result program world what ref items)
      result_comes heap.Constant ref = if_mapped Comes _ (constant_value program ref) (λ v e. of_old world was)
      result_comes (heap.ReadItem item) ref = read_item_comes item
      result_comes (heap.WriteItem item) ref = write_item_comes item
      result_comes (heap.Divide remainder) ref = divides_comes remainder
      result_comes heap.ReadStatic ref = read_static_comes ref
      result_comes heap.WriteStatic ref = write_static_comes ref
      result_comes heap.ReadField ref = read_field_comes ref
      result_comes heap.WriteField ref = write_field_comes ref
      result_comes heap.New ref = if_then Comes _ (name_named ref) (λ name e. if_some Comes _ (longer world.heap (new_of program name) old was))
      result_comes (heap.NewArray kind) ref = array_made_comes (array_named kind)
      result_comes heap.NewArrayOf ref = if_then Comes _ (name_named ref) (λ name e. array_made_comes (array_of name))
      result_comes heap.Length ref = length_comes
      result_comes heap.Cast ref = if_then Comes _ (name_named ref) (λ name e. cast_comes name)
      result_comes heap.IsInstance ref =
          if_then Comes _ (name_named ref)
          (λ name e. if_mapped Comes _ (operand_of kinds.Reference items 0) (λ v f. of_old world was))
      result_comes (heap.Call how) ref = if_none Comes
      result_comes heap.Throw ref = if_none Comes
      result_comes heap.Enter ref = if_none Comes
      result_comes heap.Exit ref = if_none Comes
      result_comes (heap.Return kind) ref = if_none Comes

    -- ---- calls

    module _ (c : Calling) where
      past_few : (world : World) (results : List Value) → HasNew world → FewIf (goes_past world c results)
      past_few world results h = went_few world c.thread c.below _ h

      past_same : (results : List Value) → FewIf (goes_past (world_of machine) c results)
      past_same results = past_few (world_of machine) results (of_old (world_of machine) is_old)

      throws_there : (class : Name) → Few (call_throws program (world_of machine) c class)
      throws_there class = throws_few (world_of machine) c.number c.thread (c.frame ∷ c.below) class None is_old tt

      receiver_few : (f : Value → Option Change) → ((v : Value) → FewIf (f v)) → FewIf (on_receiver program (world_of machine) c f)
      receiver_few f each =
          if_then Few _ c.passed.receiver (λ v e. if_either Few (is_null v) _ _ (if_some Few _ (throws_there null_pointer)) (each v))

      enters_few : (to : Given) (receiver : Option Value) (arguments : List Value)
          → FewIf (enters_method program (world_of machine) c.number c.thread (waiting c) to receiver arguments)
      enters_few to receiver arguments =
          if_then Few _ (method_at program to.0 to.1)
          (λ method e. if_then Few _ (lock_taken machine.monitors c.number (lock_of program to.0 method receiver))
          (λ held l. if_some Few _ (of_old (world_of machine) is_old, tt)))

      changed_has : (on : Value) (f : Object → Object) → HasNew (with_heap (world_of machine) (with_changed machine.heap on f))
      changed_has on f = let e = changed_long machine.heap on f in omega (arith, e)

      started_few : (on : Value) (o : Option ℕ) → FewIf (started program machine c on o)
      started_few on (Some n) = if_some Few _ (throws_there second_start)
      started_few on None =
          if_made Few Few _ _ (λ change few. few) (past_few _ [] (changed_has on (started_as (length machine.threads))))

      starts_few : (on : Value) → FewIf (starts program machine c on)
      starts_few on = if_then Few _ (thread_of_value machine.heap on) (λ n e. started_few on n)

      joined_few : (o : Option ℕ) → FewIf (joined machine c o)
      joined_few None = past_same []
      joined_few (Some n) = if_either Few (has_ended machine n) _ _ (past_same []) (if_none Few)

      joins_few : (on : Value) → FewIf (joins machine c on)
      joins_few on = if_then Few _ (thread_of_value machine.heap on) (λ n e. joined_few n)

      runs_few : (run : Option (Given × Value)) → FewIf (runs program (world_of machine) c run)
      runs_few None = past_same []
      runs_few (Some run) = enters_few run.0 (Some run.1) []

      runs_target_few : (on : Value) → FewIf (runs_target program (world_of machine) c on)
      runs_target_few on =
          if_either Few (option_map_or (is_thread program) (class_of_value machine.heap on) false) _ _
          (runs_few (run_of program machine.heap (target_of machine.heap on))) (past_same [])

      own_run_few : (on : Value)
          → FewIf (option_map_or (λ run. runs program (world_of machine) c (Some run)) (run_of program machine.heap on)
          (runs_target program (world_of machine) c on))
      own_run_few on = there_or FewIf _ (run_of program machine.heap on) _ (runs_target_few on) (λ run e. runs_few (Some run))

      runs_object_few : (how : How) (on : Value) → FewIf (runs_object program (world_of machine) c how on)
      runs_object_few hows.Special on = runs_target_few on
      runs_object_few hows.Virtual on = own_run_few on
      runs_object_few hows.Interface on = own_run_few on
      runs_object_few hows.Static on = if_none Few

      stopped_few : (n : ℤ) → FewIf (stopped_by (world_of machine) c n)
      stopped_few n = if_made Few Few _ _ (λ change few. (few.0, tt)) (past_same [])

      aims_few : (on : Value) → FewIf (aims (world_of machine) c on)
      aims_few on = if_then Few _ (slice_get c.passed.arguments 0) (λ to e. past_few _ [] (changed_has on (aimed_at to)))

      built_in_few : (how : How) (builtin : Builtin) → FewIf (built_in program machine c how builtin)
      built_in_few how builtins.Make = past_same []
      built_in_few how builtins.MakeOn = receiver_few _ aims_few
      built_in_few how builtins.Start = receiver_few _ starts_few
      built_in_few how builtins.Run = receiver_few _ (runs_object_few how)
      built_in_few how builtins.Join = receiver_few _ joins_few
      built_in_few how builtins.Exit = if_then Few _ _ (λ n e. stopped_few n)
      built_in_few how builtins.Length =
          receiver_few _ (λ on. past_same (values.Int (pos (characters (string_of program machine.heap on))) ∷ []))

      ends_few : Few (ends_thread (world_of machine) c.number (c.frame ∷ c.below))
      ends_few = (of_old (world_of machine) is_old, tt)

      lacking_few : (method : Method) (on : Value) → FewIf (lacking program (world_of machine) c method on)
      lacking_few method on = if_either Few (is_run method) _ _ (runs_target_few on) (if_some Few _ ends_few)

      lacked_few : (how : How) (method : Method) (on : Value) → FewIf (lacked program (world_of machine) c how method on)
      lacked_few hows.Virtual method on = lacking_few method on
      lacked_few hows.Interface method on = lacking_few method on
      lacked_few hows.Special method on = if_some Few _ ends_few
      lacked_few hows.Static method on = if_none Few

      enters_on_few : (how : How) (to : Given) (method : Method) (on : Value) → FewIf (enters_on program (world_of machine) c how to method on)
      enters_on_few how to method on =
          if_then Few _ (class_of_value machine.heap on)
          (λ class e. there_or FewIf _ (method_run program c.frame.class how to method class) _ (lacked_few how method on)
          (λ found f. enters_few found c.passed.receiver c.passed.arguments))

      given_few : (how : How) (to : Given) (method : Method) → FewIf (calls_given program (world_of machine) c how to method)
      given_few hows.Static to method = enters_few to None c.passed.arguments
      given_few hows.Special to method = receiver_few _ (enters_on_few hows.Special to method)
      given_few hows.Virtual to method = receiver_few _ (enters_on_few hows.Virtual to method)
      given_few hows.Interface to method = receiver_few _ (enters_on_few hows.Interface to method)

      library_few : (index : ℕ) → Few (calls_library program (world_of machine) c index)
      library_few index = (
        of_old (world_of machine) is_old,
        all_map (IsNumberedBelow (suc old)) (value_shown program machine.heap) c.passed.arguments
            (λ v. value_below machine.heap (suc old) v (of_old (world_of machine) is_old)),
      )

      named_few : (how : How) (ref : Target) → FewIf (calls_named program machine c how ref)
      named_few how (target.ApiMethod index) = if_some Few _ (library_few index)
      named_few how (target.Builtin index) = if_then Few _ (builtin_at index) (λ builtin e. built_in_few how builtin)
      named_few how (target.Method class method) = if_then Few _ (method_at program class method) (λ m e. given_few how (class, method) m)
      named_few how target.None = if_none Few
      named_few how (target.Field class field) = if_none Few
      named_few how (target.ApiField index) = if_none Few
      named_few how (target.ClassName name) = if_none Few
      named_few how (target.Number n) = if_none Few
      named_few how (target.Literal index) = if_none Few

    -- ---- instructions

    module _ (a : Acting) (ref : Target) where
      acts_few : (world : World) (frame : Option Frame) → HasNew world → FewIf (acts_on world a frame)
      acts_few world frame h = went_few world a.thread a.below frame h

      same_few : (held : List Monitor) (frame : Option Frame) → FewIf (acts_on (with_monitors (world_of machine) held) a frame)
      same_few held frame = acts_few (with_monitors (world_of machine) held) frame (of_old (world_of machine) is_old)

      throws_here : (class : Name) → FewIf (Some (acts_throwing program (world_of machine) a class))
      throws_here class = if_some Few _ (throws_few (world_of machine) a.number a.thread (a.frame ∷ a.below) class None is_old tt)

      comes_few : (made : Result (World × List Value) Name) → Comes made → FewIf (comes_to program (world_of machine) a made)
      comes_few (Ok made) h = acts_few made.0 _ h
      comes_few (Err class) h = throws_here class

      operates_few : (what : Heap) → FewIf (operates program (world_of machine) a what ref)
      operates_few what =
          if_then Few _ (heap_result program (world_of machine) what ref a.frame.stack.items)
          (λ made e. comes_few made (is_there Comes _ made (result_comes (world_of machine) is_old a.frame.stack.items what ref) e))

      enters_lock_few : (on : Value) → FewIf (enters program (world_of machine) a on)
      enters_lock_few on =
          if_either Few (is_null on) _ _ (throws_here null_pointer)
          (if_then Few _ (entered machine.monitors a.number on) (λ held e. same_few held _))

      left_few : (held : Option (List Monitor)) → FewIf (left_with program (world_of machine) a held)
      left_few None = throws_here bad_monitor
      left_few (Some held) = same_few held _

      leaves_few : (on : Value) → FewIf (leaves program (world_of machine) a on)
      leaves_few on = if_either Few (is_null on) _ _ (throws_here null_pointer) (left_few (left machine.monitors a.number on))

      throws_top_few : (v : Value) → FewIf (throws_top program (world_of machine) a v)
      throws_top_few v =
          if_either Few (is_null v) _ _ (throws_here null_pointer)
          (if_mapped Few _ (class_of_value machine.heap v) (λ class e. (of_old (world_of machine) is_old, tt)))

      returns_few : (kind : Option ValueKind) → FewIf (returns program (world_of machine) a kind)
      returns_few kind =
          if_then Few _ (result_of kind a.frame.stack.items)
          (λ result e. returned_few _ a.thread a.below result None (of_old (world_of machine) is_old) tt)

      heap_few : (what : Heap) → FewIf (heap_stepped program machine a what ref)
      heap_few (heap.Call how) =
          if_then Few _ (desc_named program ref)
          (λ desc e. if_then Few _ (taken (is_static_call how) (arity desc) a.frame.stack.items)
          (λ passed f. named_few (record { number = a.number; thread = a.thread; frame = a.frame; below = a.below; passed = passed }) how ref))
      heap_few heap.Throw = if_then Few _ (slice_get a.frame.stack.items 0) (λ v e. throws_top_few v)
      heap_few heap.Enter = if_then Few _ (slice_get a.frame.stack.items 0) (λ v e. enters_lock_few v)
      heap_few heap.Exit = if_then Few _ (slice_get a.frame.stack.items 0) (λ v e. leaves_few v)
      heap_few (heap.Return kind) = returns_few kind
      heap_few heap.Constant = operates_few heap.Constant
      heap_few (heap.ReadItem item) = operates_few (heap.ReadItem item)
      heap_few (heap.WriteItem item) = operates_few (heap.WriteItem item)
      heap_few (heap.Divide remainder) = operates_few (heap.Divide remainder)
      heap_few heap.ReadStatic = operates_few heap.ReadStatic
      heap_few heap.WriteStatic = operates_few heap.WriteStatic
      heap_few heap.ReadField = operates_few heap.ReadField
      heap_few heap.WriteField = operates_few heap.WriteField
      heap_few heap.New = operates_few heap.New
      heap_few (heap.NewArray kind) = operates_few (heap.NewArray kind)
      heap_few heap.NewArrayOf = operates_few heap.NewArrayOf
      heap_few heap.Length = operates_few heap.Length
      heap_few heap.Cast = operates_few heap.Cast
      heap_few heap.IsInstance = operates_few heap.IsInstance

      insn_few : (insn : Insn) → FewIf (insn_stepped program machine a (insn, ref))
      insn_few insn =
          there_or FewIf (λ what. heap_stepped program machine a what ref) (heap_in (shape_of insn)) _
          (acts_few (world_of machine) (frame_stepped insn a.frame) (of_old (world_of machine) is_old)) (λ what e. heap_few what)

    -- ---- threads

    module _ (number : ℕ) (thread : Thread) where
      frames_few : (frames : List Frame) → FewIf (frames_stepped program machine number thread frames)
      frames_few [] = if_none Few
      frames_few (frame ∷ below) =
          let a : Acting = record { number = number; thread = thread; frame = frame; below = below } in
          if_then Few _ (insn_at program frame) (λ next e. insn_few a next.1 next.0)

      given_has : (receiver : Option Value) (arguments : List Value) (answer : ApiAnswer)
          → IfThere (λ (gave : World × Option Value). HasNew gave.0) (given (world_of machine) receiver arguments answer)
      given_has receiver arguments answers.Nothing = if_some _ _ (of_old (world_of machine) is_old)
      given_has receiver arguments (answers.Int n) = if_some _ _ (of_old (world_of machine) is_old)
      given_has receiver arguments answers.Null = if_some _ _ (of_old (world_of machine) is_old)
      given_has receiver arguments (answers.Text text) = if_some _ _ (longer machine.heap (objects.Text text) old is_old)
      given_has receiver arguments (answers.Fresh class) = if_some _ _ (longer machine.heap (bare_object class) old is_old)
      given_has receiver arguments (answers.Arg i) = if_mapped _ _ (slice_get arguments i) (λ v e. of_old (world_of machine) is_old)
      given_has receiver arguments answers.Receiver = if_mapped _ _ receiver (λ v e. of_old (world_of machine) is_old)
      given_has receiver arguments (answers.Throws class) = if_none _

      library_throws : (method : ℕ) (class : Name)
          → Few (throws_new program (world_of machine) number thread thread.frames class (Some (events.Except number method)))
      library_throws method class = throws_few (world_of machine) number thread thread.frames class (Some (events.Except number method)) is_old tt

      gave_few : (method : ℕ) (gave : World × Option Value) → HasNew gave.0 → FewIf (returned_by program number thread method gave)
      gave_few method gave h = returned_few gave.0 thread thread.frames gave.1 _ h (result_below gave.0.heap (suc old) gave.1 h)

      answered_few : (method : ℕ) (receiver : Option Value) (arguments : List Value) (answer : ApiAnswer)
          → FewIf (answered program (world_of machine) number thread method receiver arguments answer)
      answered_few method receiver arguments answer =
          if_then Few _ (slice_get program.listing.methods method)
          (λ listed e. if_either Few (answer_fits program machine.heap _ receiver arguments answer) _ _
          (there_or FewIf _ (thrown_by answer) _
          (if_then Few _ (given (world_of machine) receiver arguments answer)
          (λ gave f. gave_few method gave (is_there (λ (g : World × Option Value). HasNew g.0) _ gave (given_has receiver arguments answer) f)))
          (λ class f. if_some Few _ (library_throws method class)))
          (if_none Few))

      call_few : (method : ℕ) (receiver : Option Value) (arguments : List Value) (choice : Choice)
          → FewIf (call_stepped program (world_of machine) number thread method receiver arguments choice)
      call_few method receiver arguments choices.Plain =
          if_either Few (is_on_null receiver) _ _ (if_some Few _ (library_throws method null_pointer)) (if_none Few)
      call_few method receiver arguments (choices.Answer answer) =
          if_either Few (is_on_null receiver) _ _ (if_none Few) (answered_few method receiver arguments answer)

      running_few : (choice : Choice) → FewIf (running_stepped program machine number thread choice)
      running_few choices.Plain = frames_few thread.frames
      running_few (choices.Answer answer) = if_none Few

      does_few : (doing : Doing) (choice : Choice) → FewIf (doing_stepped program machine number thread doing choice)
      does_few doings.Running choice = running_few choice
      does_few (doings.InCall method receiver arguments) choice = call_few method receiver arguments choice
      does_few doings.Ended choice = if_none Few

    changed_few : (step : Step) → FewIf (changed program machine step)
    changed_few step =
        if_either Few (is_some machine.stopped) _ _ (if_none Few)
        (if_then Few _ (slice_get machine.threads step.thread) (λ thread e. does_few step.thread thread thread.doing step.choice))

    few : (step : Step) (change : Change) → changed program machine step ≡ Some change → Few change
    few step change e = is_there Few (changed program machine step) change (changed_few step) e

    threads_few : (number : ℕ) (change : Change) → length (applied number machine change).threads ≤ suc (length machine.threads)
    threads_few number change =
        let most = at_most_one (slice_set machine.threads number change.thread) change.begins in
        let long = set_long machine.threads number change.thread in
        omega (arith, most, long)

  -- ---- lists of steps

  abbrev made_of : Machine → Step → Change → Machine × Option Event
  made_of machine step change = (applied step.thread machine change, change.event)

  -- the machine after a step, and what was seen of it
  after_has : (machine : Machine) (step : Step) (o : Option Change) → changed program machine step ≡ o
      → (length (option_map_or (λ (m : Machine × Option Event). m.0) (option_map (made_of machine step) o) machine).heap ≤ suc (length machine.heap))
      × (length (option_map_or (λ (m : Machine × Option Event). m.0) (option_map (made_of machine step) o) machine).threads ≤ suc (length machine.threads))
  after_has machine step None e = (omega arith, omega arith)
  after_has machine step (Some change) e = ((few machine step change e).0, threads_few machine step.thread change)

  sees_one : (n : ℕ) (machine : Machine) (event : Option Event) → suc (length machine.heap) ≤ n → SeenBelow machine event
      → AllByRecursion (ShowsBelow n) (option_to_list event)
  sees_one n machine None le h = tt
  sees_one n machine (Some event) le h = (shows_more (suc (length machine.heap)) n event le h, tt)

  sees_has : (n : ℕ) (machine : Machine) (step : Step) (o : Option Change) → changed program machine step ≡ o → suc (length machine.heap) ≤ n
      → AllByRecursion (ShowsBelow n) (option_map_or (λ (m : Machine × Option Event). option_to_list m.1) (option_map (made_of machine step) o) [])
  sees_has n machine step None e le = tt
  sees_has n machine step (Some change) e le = sees_one n machine change.event le (few machine step change e).1

  few_from : (steps : List Step) (machine : Machine) (h t : ℕ) → length machine.heap ≤ h → length machine.threads ≤ t
      → (length (exec_from program machine steps).heap ≤ h + length steps) × (length (exec_from program machine steps).threads ≤ t + length steps)
  few_from [] machine h t p q = (omega (arith, p), omega (arith, q))
  few_from (step ∷ steps) machine h t p q =
      let next = after_has machine step (changed program machine step) refl in
      let rest = few_from steps (stepped_or_same program machine step) (suc h) (suc t) (omega (arith, p, next.0)) (omega (arith, q, next.1)) in
      (omega (arith, rest.0), omega (arith, rest.1))

  sees_from : (steps : List Step) (machine : Machine) (n : ℕ) → length machine.heap + length steps ≤ n
      → AllByRecursion (ShowsBelow n) (trace_from program machine steps)
  sees_from [] machine n le = tt
  sees_from (step ∷ steps) machine n le =
      let next = after_has machine step (changed program machine step) refl in
      all_append (ShowsBelow n) (seen program machine step) (trace_from program (stepped_or_same program machine step) steps)
      (sees_has n machine step (changed program machine step) refl (omega (arith, le)))
      (sees_from steps (stepped_or_same program machine step) n (omega (arith, le, next.0)))

  first_long : length (first_heap program) ≡ suc (length program.listing.fields)
  first_long =
      let objects_there : List Object = map (λ (f : MethodId). bare_object (inner f.desc)) program.listing.fields in
      let a = length-append objects_there (objects.Array (codes "[Ljava/lang/String;") [] ∷ []) in
      let m = length-map program.listing.fields (λ (f : MethodId). bare_object (inner f.desc)) in
      omega (arith, a, m)

pub steps_add_one : StepsAddOne
steps_add_one program machine after step event e =
    let m = map_of (made_of program machine step) (changed program machine step) (after, event) e in
    let is : applied step.thread machine m.0 ≡ after = ap (λ (x : Machine × Option Event). x.0) m.2 in
    subst (λ (x : Machine). (length x.heap ≤ suc (length machine.heap)) × (length x.threads ≤ suc (length machine.threads))) is
    ((few program machine step m.0 m.1).0, threads_few program machine step.thread m.0)

pub few_are_added : FewAreAdded
few_are_added program steps =
    let long = first_long program in
    let few = few_from program steps (start_of program) (suc (length program.listing.fields)) 1 (omega (arith, long)) (omega arith) in
    let threads = few.1 in
    (few.0, omega (arith, threads))

pub sees_few_objects : SeesFewObjects
sees_few_objects program steps =
    let long = first_long program in
    sees_from program steps (start_of program) (suc (length program.listing.fields) + length steps) (omega (arith, long))
