-- What is thrown in the part of an instruction is caught alike in both programs, once the block's own handler does not take it.
use Rattle.std.proofs.Common.{◌≡◌, ◌∙◌, ◌<◌, ◌≤◌, ℕ, ◌+◌, Bool, true, cond, List, [], ◌∷◌, ◌++◌, length, map, take, Option, Some, None, refl, sym, ap, subst, arith}
use Rattle.std.specs.Prelude.{find, if◌then◌else◌, nat_lt, option_map, option_and_then, slice_index}
use Rattle.std.specs.List.{AllByRecursion}
use Rattle.std.specs.Option.{option_map_or, option_or, option_to_list}
use Rattle.std.proofs.lemmas.Bool.{lt-ltb}
use Rattle.std.proofs.lemmas.List.Folds.{find-append}
use Rattle.bytecode_model.specs.declared.program.Handler.{Handler}
use Rattle.bytecode_model.specs.declared.program.Method.{Method}
use Rattle.bytecode_model.specs.declared.program.Program.{Program}
use Rattle.bytecode_model.specs.Classes.{is_below}
use Rattle.bytecode_model.specs.SearchOrder.{Name}
use Rattle.cert_format.specs.declared.certificate.Mode.{Mode}
use Rattle.conspec_automaton.specs.declared.policy.Policy.{Policy}
use Rattle.offset_patch.specs.Splicing.{at_fronts, call_place, fronts_of, handlers_with, own_handler, own_handlers}
use Rattle.guest_heap.specs.declared.frame.Frame.{Frame}
use Rattle.guest_heap.specs.declared.value.Value.{Value}
use Rattle.guest_frames.specs.Stepping.{moved_to}
use Rattle.guest_model.specs.Places.{method_at}
use Rattle.guest_model.specs.Parts.{thrown_thread}
use Rattle.guest_model.specs.Throwing.{catches, caught_in, handler_of, locks_left, takes, unwound}
use Rattle.guest_erasing.specs.Laid.{IsClientName, IsWithin}
use Rattle.guest_erasing.specs.Mirrors.{AreBelow, AreFrames, FrameMirrors, HasRoomToCatch, HoldsClientValues, IsAtFront, ThreadMirrors}
use Rattle.guest_erasing.specs.Places.{Sites, stand}
use Rattle.guest_erasing.proofs.Changing.{ended_mirrors, running_mirrors}
use Rattle.guest_erasing.proofs.Handling.{all_found, found_mapped, locks_alike, unwound_alike}
use Rattle.guest_erasing.proofs.Inside.{IsUncaught, covers_part, none_catches, own_found, own_miss_part}
use Rattle.guest_erasing.proofs.Placing.{front_is}
use Rattle.block_runs.specs.Joining.{IsWovenBy, sites}
use Rattle.block_runs.proofs.Standing.{IsAtBlock, begin, end_is, stand_is}

all_as : {X : Type 0} (P Q : X → Type 0) (xs : List X) → ((x : X) → P x → Q x) → AllByRecursion P xs → AllByRecursion Q xs
all_as P Q [] f all = tt
all_as P Q (x ∷ xs) f all = (f x all.0, all_as P Q xs f all.1)

module _ (policy : Policy) (mode : Mode) (client woven : Program) (w : IsWovenBy policy mode client woven) (frame next : Frame)
    (mm : FrameMirrors (sites policy mode) client woven frame next) (listed : ℕ)
    (b : IsAtBlock policy mode client woven frame next mm listed)
    (class : Name) (own : IsClientName class) where
  abbrev parts : Sites
  parts = sites policy mode mm.old

  abbrev fronts : List ℕ
  fronts = fronts_of (sites policy mode mm.old)

  abbrev from : ℕ
  from = begin policy mode client woven frame next mm listed b

  within : AllByRecursion (IsWithin (length parts)) mm.old.handlers
  within = subst (λ (n : ℕ). AllByRecursion (IsWithin n) mm.old.handlers) (sym mm.laid.count) mm.laid.within

  -- ---- handlers

  takes_by : (caught : Option Name)
      → option_map_or (λ (c : Name). is_below woven class c) caught true ≡ option_map_or (λ (c : Name). is_below client class c) caught true
  takes_by None = refl
  takes_by (Some c) = w.tell.below class c own

  module _ (k : ℕ) (less : k < length b.made.insns) where
    catches_same : (h : Handler) → IsWithin (length parts) h
        → catches woven (from + k) class (at_fronts fronts h) ≡ catches client frame.at class h
    catches_same h inside =
        let ends = end_is policy mode client woven frame next mm listed b in
        let c = covers_part parts mm.laid.blocks frame.at (from + k) h inside (omega arith) (omega (arith, ends, less)) in
        let t : takes woven class (at_fronts fronts h) ≡ takes client class h = takes_by h.class in
        rw c (rw t refl)

    found_there : IsUncaught (Some b.made) k
        → find (catches woven (from + k) class) (handlers_with parts mm.old.handlers) ≡ option_map (at_fronts fronts)
        (find (catches client frame.at class) mm.old.handlers)
    found_there free =
        let test : Handler → Bool = catches woven (from + k) class in
        let none : find test (own_handlers 0 parts) ≡ None =
        none_catches woven class (from + k) (own_handlers 0 parts)
        (own_miss_part parts frame.at k (Some b.made) mm.laid.blocks b.site less free) in
        find-append test (own_handlers 0 parts) (map (at_fronts fronts) mm.old.handlers)
        ∙ ap (λ (o : Option Handler). option_or o (find test (map (at_fronts fronts) mm.old.handlers))) none
        ∙ found_mapped (catches client frame.at class) test (at_fronts fronts) mm.old.handlers
        (all_as (IsWithin (length parts))
        (λ (h : Handler). test (at_fronts fronts h) ≡ catches client frame.at class h) mm.old.handlers catches_same within)

  client_handler : handler_of client frame class ≡ find (catches client frame.at class) mm.old.handlers
  client_handler = ap (option_and_then (λ (method : Method). find (catches client frame.at class) method.handlers)) mm.there

  -- the handlers of the woven method, for a frame of it
  woven_handler : (g : Frame) → g.class ≡ next.class → g.method ≡ next.method
      → handler_of woven g class ≡ find (catches woven g.at class) (handlers_with parts mm.old.handlers)
  woven_handler g in_class in_method =
      ap (λ (c : ℕ). option_and_then (λ (method : Method). find (catches woven g.at class) method.handlers) (method_at woven c g.method))
      (in_class ∙ mm.class)
      ∙ ap (λ (n : ℕ). option_and_then (λ (method : Method). find (catches woven g.at class) method.handlers)
      (method_at woven frame.class n)) (in_method ∙ mm.method)
      ∙ ap (option_and_then (λ (method : Method). find (catches woven g.at class) method.handlers)) mm.woven_there
      ∙ ap (find (catches woven g.at class)) mm.laid.handlers

  goes_within : (h : Handler) → handler_of client frame class ≡ Some h → h.at ≤ length parts
  goes_within h e =
      let i = all_found (catches client frame.at class) (IsWithin (length parts)) mm.old.handlers h within (sym client_handler ∙ e) in
      omega (arith, i.at)

  -- ---- a frame of the method that throws, at a place of the block at which its own handler does not catch

  pub record ThrowsAt (g : Frame) : Type 0 where
    pub k : ℕ
    pub less : k < length b.made.insns
    pub free : IsUncaught (Some b.made) k
    pub in_class : g.class ≡ next.class
    pub in_method : g.method ≡ next.method
    pub at : g.at ≡ from + k
    pub lock : g.lock ≡ next.lock
    pub size : g.stack.size ≡ next.stack.size
    pub locals : take mm.old.max_locals g.locals ≡ frame.locals
    pub wide : length g.locals ≡ mm.new.max_locals

  -- Both catch it, in frames at the front of one handler, or neither does.
  abbrev pub Both : Option Frame → Option Frame → Type 0
  Both None None = Unit {0}
  Both None (Some g) = ⊥
  Both (Some f) None = ⊥
  Both (Some f) (Some g) = IsAtFront (sites policy mode) client woven f g

  module _ (g : Frame) (t : ThrowsAt g) (room : HasRoomToCatch client frame) (v : Value) where
    handler_there : handler_of woven g class ≡ option_map (at_fronts fronts) (handler_of client frame class)
    handler_there =
        woven_handler g t.in_class t.in_method ∙ ap (λ (n : ℕ). find (catches woven n class) (handlers_with parts mm.old.handlers)) t.at
        ∙ found_there t.k t.less t.free ∙ ap (option_map (at_fronts fronts)) (sym client_handler)

    abbrev caught_by : Frame → Option Handler → Option Frame
    caught_by f o = option_and_then (λ (h : Handler). if nat_lt 0 f.stack.size then Some (moved_to f h.at f.locals (v ∷ [])) else None) o

    caught_front : (h : Handler) → handler_of client frame class ≡ Some h
        → IsAtFront (sites policy mode) client woven (moved_to frame h.at frame.locals (v ∷ []))
        (moved_to g (slice_index fronts h.at) g.locals (v ∷ []))
    caught_front h e = record {
      mirrors = record {
        old = mm.old;
        new = mm.new;
        there = mm.there;
        woven_there = mm.woven_there;
        laid = mm.laid;
        class = t.in_class ∙ mm.class;
        method = t.in_method ∙ mm.method;
        lock = t.lock ∙ mm.lock;
        locals = t.locals;
        many = mm.many;
        wide = t.wide;
        items = refl;
        size = mm.size;
        room = t.size ∙ mm.room;
      };
      at = front_is parts h.at (goes_within h e);
    }

    both_catch : Both (caught_in client v class frame) (caught_in woven v class g)
    both_catch = by (handler_of client frame class) (handler_of woven g class) handler_there caught_front (room class)
      where
        by : (o p : Option Handler) → p ≡ option_map (at_fronts fronts) o
            → ((h : Handler) → o ≡ Some h
            → IsAtFront (sites policy mode) client woven (moved_to frame h.at frame.locals (v ∷ []))
            (moved_to g (slice_index fronts h.at) g.locals (v ∷ [])))
            → ((h : Handler) → o ≡ Some h → 1 ≤ frame.stack.size)
            → Both (caught_by frame o) (caught_by g p)
        by None p e there some = rw e tt
        by (Some h) p e there some =
            let a : nat_lt 0 frame.stack.size ≡ true = lt-ltb 0 frame.stack.size (some h refl) in
            let c : nat_lt 0 g.stack.size ≡ true = lt-ltb 0 g.stack.size
            (omega (arith, some h refl, t.size, mm.size, mm.room, mm.laid.stack)) in
            rw (e, a, c) (there h refl)

    -- ---- the frames that are left, and the locks that are given up

    module _ (below others : List Frame) (bs : AreBelow (sites policy mode) client woven below others)
        (holding : AllByRecursion (HoldsClientValues client) below) where
      abbrev Frames : List Frame → List Frame → Type 0
      Frames = AreFrames (sites policy mode) client woven (IsAtFront (sites policy mode) client woven)

      frames_or : (o p : Option Frame) (left more : List Frame) → Both o p → Frames left more
          → Frames (option_map_or (λ (f : Frame). f ∷ below) o left) (option_map_or (λ (f : Frame). f ∷ others) p more)
      frames_or None None left more both later = later
      frames_or None (Some h) left more both later = absurd both
      frames_or (Some f) None left more both later = absurd both
      frames_or (Some f) (Some h) left more both later = (both, bs)

      locks_or : (o p : Option Frame) (locks more : List Value) → Both o p → more ≡ locks
          → option_map_or (λ (f : Frame). []) p more ≡ option_map_or (λ (f : Frame). []) o locks
      locks_or None None locks more both e = e
      locks_or None (Some h) locks more both e = absurd both
      locks_or (Some f) None locks more both e = absurd both
      locks_or (Some f) (Some h) locks more both e = refl

      pub frames_alike : Frames (unwound client v class (frame ∷ below)) (unwound woven v class (g ∷ others))
      frames_alike =
          frames_or (caught_in client v class frame) (caught_in woven v class g) (unwound client v class below)
          (unwound woven v class others) both_catch
          (unwound_alike (sites policy mode) client woven w.tell class own v below others bs holding)

      pub locks_same : locks_left woven v class (g ∷ others) ≡ locks_left client v class (frame ∷ below)
      locks_same =
          locks_or (caught_in client v class frame) (caught_in woven v class g)
          (option_to_list frame.lock ++ locks_left client v class below)
          (option_to_list g.lock ++ locks_left woven v class others) both_catch
          (ap (λ (o : Option Value). option_to_list o ++ locks_left woven v class others) (t.lock ∙ mm.lock)
          ∙ ap (λ (ls : List Value). option_to_list frame.lock ++ ls)
          (locks_alike (sites policy mode) client woven w.tell class own v below others bs holding))

      thread_by : (left more : List Frame) (to_begin more_begin : List (ℕ × ℕ)) → more_begin ≡ to_begin → Frames left more
          → ThreadMirrors (sites policy mode) client woven (thrown_thread left to_begin) (thrown_thread more more_begin)
      thread_by [] [] to_begin more_begin same f = ended_mirrors (sites policy mode) client woven
      thread_by [] (x ∷ more) to_begin more_begin same f = absurd f
      thread_by (x ∷ left) [] to_begin more_begin same f = absurd f
      thread_by (x ∷ left) (y ∷ more) to_begin more_begin same f =
          running_mirrors (sites policy mode) client woven (x ∷ left) (y ∷ more) to_begin more_begin same f

      pub thread_alike : (to_begin more_begin : List (ℕ × ℕ)) → more_begin ≡ to_begin
          → ThreadMirrors (sites policy mode) client woven (thrown_thread (unwound client v class (frame ∷ below)) to_begin)
          (thrown_thread (unwound woven v class (g ∷ others)) more_begin)
      thread_alike to_begin more_begin same =
          thread_by (unwound client v class (frame ∷ below)) (unwound woven v class (g ∷ others)) to_begin more_begin same frames_alike

  -- ---- the block's own handler

  -- What the call throws the block catches.
  pub own_catches : (h : ℕ) (v : Value) → b.made.handler ≡ Some h → next.at ≡ from + call_place b.made.insns
      → caught_in woven v class next ≡ Some (moved_to next (from + h) next.locals (v ∷ []))
  own_catches h v has at =
      let here : next.at ≡ stand parts frame.at = at ∙ sym (stand_is policy mode client woven frame next mm listed b) in
      let test : Handler → Bool = catches woven (stand parts frame.at) class in
      let found : handler_of woven next class ≡ Some (own_handler from b.made.insns h) =
      woven_handler next refl refl ∙ ap (λ (n : ℕ). find (catches woven n class) (handlers_with parts mm.old.handlers)) here
      ∙ find-append test (own_handlers 0 parts) (map (at_fronts fronts) mm.old.handlers)
      ∙ ap (λ (o : Option Handler). option_or o (find test (map (at_fronts fronts) mm.old.handlers)))
      (own_found woven class parts frame.at b.made h mm.laid.blocks b.site has) in
      let some : nat_lt 0 next.stack.size ≡ true = lt-ltb 0 next.stack.size (omega (arith, mm.room, b.put.stack)) in
      ap (option_and_then (λ (x : Handler). if nat_lt 0 next.stack.size then Some
      (moved_to next x.at next.locals (v ∷ [])) else None)) found
      ∙ ap (λ (x : Bool). cond x (Some (moved_to next (from + h) next.locals (v ∷ []))) None) some
