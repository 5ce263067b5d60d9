-- Changes by a thread that does not hold the lock: it goes on, throws, ends, calls a method, or returns.
use Rattle.std.proofs.Common.{◌≡◌, ℕ, ◌+◌, List, [], ◌∷◌, ◌++◌, length, Option, Some, None, refl, sym, ap, subst}
use Rattle.std.specs.Prelude.{false, nat_lt, IfSome, option_map}
use Rattle.std.specs.Option.{option_to_list}
use Rattle.api_listing.specs.declared.events.Event.{Event}
use Rattle.block_logic.specs.Annotations.{Annotations}
use Rattle.bytecode_model.specs.declared.program.Method.{Method}
use Rattle.bytecode_model.specs.declared.program.Program.{Program}
use Rattle.bytecode_model.specs.SearchOrder.{Name}
use Rattle.conspec_automaton.specs.declared.policy.Policy.{Policy}
use Rattle.conspec_automaton.specs.Next.{has_clause}
use Rattle.guest_heap.specs.declared.frame.Frame.{Frame}
use Rattle.guest_heap.specs.declared.object.Monitor.{Monitor}
use Rattle.guest_heap.specs.declared.thread.Thread.{Thread}
use Rattle.guest_heap.specs.declared.value.Value.{Value}
use Rattle.guest_heap.specs.declared.value.Value.TheVariants as values
use Rattle.guest_frames.specs.Stepping.{after, fitted, moved_to}
use Rattle.guest_model.specs.Changes.{
  Change,
  World,
  ends_thread,
  enters_method,
  frame_of,
  goes,
  lock_of,
  lock_taken,
  locks_of,
  rests_now,
  returned,
  throws,
  throws_new,
  with_event,
  with_monitors,
  with_object,
}
use Rattle.guest_model.specs.Finding.{Given}
use Rattle.guest_model.specs.Places.{method_at}
use Rattle.guest_model.specs.Throwing.{bare_object, locks_left}
use Rattle.guest_model.proofs.Options.{IfThere, all_append, if_mapped, if_some, if_then, some_is, unless_of}
use Rattle.block_logic.specs.Fitting.{AreBelow, AreClientFrames, ArePassed, IsClient, held_locks, state_of}
use Rattle.block_logic.specs.Meaning.{AreClean, IsClean, IsFrame}
use Rattle.block_logic.proofs.Client.Begins.{begun_frames, clean_list, ended_client, lock_clean, rests_client}
use Rattle.block_logic.proofs.Client.Frames.{FreeAt, Laws, goes_after, went_free}
use Rattle.block_logic.proofs.Client.Monitors.{all_given_up_stay, entered_stays}
use Rattle.block_logic.proofs.Client.Throws.{AreCatching, all_locks_clean, locks_clean, thrown_client, unwound_client}
use Rattle.block_logic.proofs.Client.Values.{KeepsLock, kept_monitors, kept_object}
use Rattle.block_logic.proofs.Steps.{ChangesClient}

module _ (program : Program) (policy : Policy) (annotations : Annotations) where
  -- what is seen, if anything, has no clause
  abbrev pub IsUnclaused : Option Event → Type 0
  IsUnclaused event = IfSome event (λ (e : Event). has_clause policy e ≡ false)

  -- the frame at an instruction of the client, where its operands fit
  pub fitted_free : (frame : Frame) (at : ℕ) (locals items : List Value) (below : List Frame) → IsFrame program frame
      → FreeAt program policy annotations frame at → AreClean program locals → AreClean program items → AreBelow program policy annotations below
      → (f : Frame) → fitted frame at locals items ≡ Some f → AreClientFrames program policy annotations (f ∷ below)
  fitted_free frame at locals items below well free in_locals on_stack waits f e =
      subst (λ (x : Frame). AreClientFrames program policy annotations (x ∷ below))
      (unless_of (nat_lt frame.stack.size (length items)) (moved_to frame at locals items) f e)
      (went_free program policy annotations frame at locals items below well free in_locals on_stack waits)

  pub after_free : (frame : Frame) (items : List Value) (below : List Frame) → IsFrame program frame
      → FreeAt program policy annotations frame (frame.at + 1) → AreClean program items → AreBelow program policy annotations below
      → (f : Frame) → after frame items ≡ Some f → AreClientFrames program policy annotations (f ∷ below)
  after_free frame items below well free on_stack waits = fitted_free frame (frame.at + 1) frame.locals items below well free well.locals on_stack waits

  -- the lock is as it was in what all shared
  abbrev pub Keeps : World → World → Type 0
  Keeps shared world = KeepsLock program (state_of program policy annotations) shared world

  abbrev pub Good : World → Change → Type 0
  Good shared change = ChangesClient program policy annotations shared change

  abbrev pub GoodIf : World → Option Change → Type 0
  GoodIf shared change = IfThere (Good shared) change

  module _ (laws : Laws program policy annotations) (shared : World) where
    pub changes : (change : Change) → Keeps shared change.world → IsClient program policy annotations change.thread
        → IfSome change.begins (IsClient program policy annotations) → IsUnclaused change.event → Good shared change
    changes change k client begins unclaused = record {
      world = k.clean;
      locks = k.locks;
      variables = k.variables;
      thread = client;
      begins = begins;
      event = unclaused;
    }

    pub with_held : (world : World) (held : List Monitor) → Keeps shared world → held_locks program held ≡ held_locks program world.monitors
        → Keeps shared (with_monitors world held)
    with_held world held k same = kept_monitors program (state_of program policy annotations) shared world k held same

    -- ---- going on

    pub goes_good : (world : World) (thread : Thread) (frames : List Frame) → Keeps shared world → AreClientFrames program policy annotations frames
        → Good shared (goes world thread frames)
    goes_good world thread frames k client = changes (goes world thread frames) k client tt tt

    pub went_on : (world : World) (thread : Thread) (frame : Option Frame) (below : List Frame) → Keeps shared world
        → ((f : Frame) → frame ≡ Some f → AreClientFrames program policy annotations (f ∷ below))
        → GoodIf shared (option_map (λ (f : Frame). goes world thread (f ∷ below)) frame)
    went_on world thread frame below k there =
        if_mapped (Good shared) (λ (f : Frame). goes world thread (f ∷ below)) frame (λ f e. goes_good world thread (f ∷ below) k (there f e))

    -- ---- ending

    pub ends_good : (world : World) (number : ℕ) (frames : List Frame) → Keeps shared world → AreCatching program policy annotations frames
        → Good shared (ends_thread world number frames)
    ends_good world number frames k c =
        changes (ends_thread world number frames)
        (with_held world _ k
        (all_given_up_stay program (locks_of frames) world.monitors number (all_locks_clean program policy annotations laws frames c)))
        (ended_client program policy annotations) tt tt

    -- ---- throwing

    pub throws_good : (world : World) (number : ℕ) (thread : Thread) (frames : List Frame) (thrown : Value) (class : Name) (event : Option Event)
        → Keeps shared world → IsClean program thrown → AreCatching program policy annotations frames → IsUnclaused event
        → Good shared (throws program world number thread frames thrown class event)
    throws_good world number thread frames thrown class event k clean c unclaused =
        let locks = locks_clean program policy annotations laws thrown class frames c in
        changes (throws program world number thread frames thrown class event)
        (with_held world _ k (all_given_up_stay program (locks_left program thrown class frames) world.monitors number locks))
        (thrown_client program policy annotations _ thread.to_begin
        (unwound_client program policy annotations laws thrown class clean frames c)) tt unclaused

    pub throws_new_good : (world : World) (number : ℕ) (thread : Thread) (frames : List Frame) (class : Name) (event : Option Event)
        → Keeps shared world → AreCatching program policy annotations frames → IsUnclaused event
        → Good shared (throws_new program world number thread frames class event)
    throws_new_good world number thread frames class event k c unclaused =
        throws_good (with_object world (bare_object class)) number thread frames (values.Ref (length world.heap)) class event
        (kept_object program (state_of program policy annotations) shared world k (bare_object class) (tt, refl)) refl c unclaused

    -- ---- calling

    taken_stays : (monitors held : List Monitor) (number : ℕ) (lock : Option Value) → IfSome lock (IsClean program)
        → lock_taken monitors number lock ≡ Some held → held_locks program held ≡ held_locks program monitors
    taken_stays monitors held number None clean e = ap (held_locks program) (sym (some_is monitors held e))
    taken_stays monitors held number (Some on) clean e = entered_stays program number on clean monitors held e

    -- a method, in front of frames that wait
    pub enters_good : (world : World) (number : ℕ) (thread : Thread) (waiting : List Frame) (to : Given) (receiver : Option Value)
        (arguments : List Value) → Keeps shared world → AreBelow program policy annotations waiting → ArePassed program receiver arguments
        → GoodIf shared (enters_method program world number thread waiting to receiver arguments)
    enters_good world number thread waiting to receiver arguments k waits passed =
        if_then (Good shared) _ (method_at program to.0 to.1)
        (λ (method : Method) there.
        let lock = lock_clean program policy annotations laws to method there receiver passed.0 in
        if_then (Good shared) _ (lock_taken world.monitors number (lock_of program to.0 method receiver))
        (λ held e. if_some (Good shared) _
        (goes_good (with_monitors world held) thread (frame_of program to method receiver arguments ∷ waiting)
        (with_held world held k (taken_stays world.monitors held number (lock_of program to.0 method receiver) lock e))
        (begun_frames program policy annotations laws to method there receiver arguments passed waiting waits))))

    -- ---- returning

    pub event_good : (event : Option Event) (change : Change) → Good shared change → IsUnclaused event → Good shared (with_event change event)
    event_good event change good unclaused = record {
      world = good.world;
      locks = good.locks;
      variables = good.variables;
      thread = good.thread;
      begins = good.begins;
      event = unclaused;
    }

    pub returned_good : (world : World) (thread : Thread) (frames : List Frame) (result : Option Value) (event : Option Event) → Keeps shared world
        → AreBelow program policy annotations frames → IfSome result (IsClean program) → IsUnclaused event
        → GoodIf shared (returned program world thread frames result event)
    returned_good world thread [] result event k waits clean unclaused =
        if_some (Good shared) _
        (changes (with_event (rests_now program world thread) event) k (rests_client program policy annotations laws thread.to_begin) tt unclaused)
    returned_good world thread (caller ∷ below) result event k waits clean unclaused =
        let items : List Value = option_to_list result ++ caller.stack.items in
        if_mapped (Good shared) (λ (f : Frame). with_event (goes world thread (f ∷ below)) event) (after caller items)
        (λ f e. event_good event (goes world thread (f ∷ below))
        (goes_good world thread (f ∷ below) k
        (after_free caller items below waits.0.well (goes_after program policy annotations laws caller waits.0)
        (all_append (IsClean program) (option_to_list result) caller.stack.items (clean_list program result clean) waits.0.clean) waits.1 f e)) unclaused)
