-- What is thrown in the client is caught in the woven program by the same handler, at its front.
use Rattle.std.proofs.Common.{◌≡◌, ℕ, ◌<◌, ◌≤◌, Bool, true, false, cond, List, [], ◌∷◌, ◌++◌, length, map, Option, Some, None, refl, sym, ap, ◌∙◌, subst, arith}
use Rattle.std.specs.Prelude.{if◌then◌else◌, nat_lt, slice_index, find, option_map, option_and_then}
use Rattle.std.specs.List.{AllByRecursion}
use Rattle.std.specs.Option.{option_map_or, option_or, option_to_list}
use Rattle.std.proofs.lemmas.Bool.{lt-ltb}
use Rattle.std.proofs.lemmas.List.Folds.{find-append}
use Rattle.bytecode_model.specs.declared.program.Handler.{Handler}
use Rattle.bytecode_model.specs.declared.program.Method.{Method}
use Rattle.bytecode_model.specs.declared.program.Program.{Program}
use Rattle.bytecode_model.specs.Classes.{is_below}
use Rattle.bytecode_model.specs.Rules.{covers}
use Rattle.bytecode_model.specs.SearchOrder.{Name}
use Rattle.guest_heap.specs.declared.frame.Frame.{Frame}
use Rattle.guest_heap.specs.declared.value.Value.{Value}
use Rattle.guest_frames.specs.Stepping.{moved_to}
use Rattle.guest_model.specs.Places.{method_at}
use Rattle.guest_model.specs.Throwing.{catches, caught_in, handler_of, locks_left, takes, unwound}
use Rattle.guest_model.proofs.Options.{and_then_of, some_is}
use Rattle.offset_patch.specs.Fits.{IsSite}
use Rattle.offset_patch.specs.Splicing.{at_fronts, fronts_of, handlers_with, own_handlers}
use Rattle.guest_erasing.specs.Laid.{IsClientName, IsWithin, TellAlike}
use Rattle.guest_erasing.specs.Mirrors.{AreBelow, AreFrames, HasRoomToCatch, HoldsClientValues, IsAtFront, IsBelow}
use Rattle.guest_erasing.specs.Places.{Sites, front, has_block}
use Rattle.guest_erasing.proofs.Framing.{moved_front}
use Rattle.guest_erasing.proofs.Placing.{covers_front, front_is, own_miss, stands_at_front}

-- ---- finding

pub none_found : {X : Type 0} (p : X → Bool) (xs : List X) → AllByRecursion (λ (x : X). p x ≡ false) xs → find p xs ≡ None
none_found p [] all = refl
none_found p (x ∷ xs) all = rw all.0 (none_found p xs all.1)

pub found_mapped : {X Y : Type 0} (p : X → Bool) (q : Y → Bool) (f : X → Y) (xs : List X) → AllByRecursion (λ (x : X). q (f x) ≡ p x) xs
    → find q (map f xs) ≡ option_map f (find p xs)
found_mapped p q f [] all = refl
found_mapped {X = X} {Y = Y} p q f (x ∷ xs) all = rw all.0 (by (p x) (found_mapped p q f xs all.1)) where
  by : (b : Bool) → find q (map f xs) ≡ option_map f (find p xs)
      → cond b (Some (f x)) (find q (map f xs)) ≡ option_map f (cond b (Some x) (find p xs))
  by true later = refl
  by false later = later

all_as : {X : Type 0} (P Q : X → Type 0) (xs : List X) → ((x : X) → P x → Q x) → AllByRecursion P xs → AllByRecursion Q xs
all_as P Q [] f all = tt
all_as P Q (x ∷ xs) f all = (f x all.0, all_as P Q xs f all.1)

pub all_found : {X : Type 0} (p : X → Bool) (P : X → Type 0) (xs : List X) (x : X) → AllByRecursion P xs → find p xs ≡ Some x → P x
all_found p P [] x all e = absurd cc
all_found {X = X} p P (y ∷ xs) x all e = by (p y) e (all_found p P xs x all.1) where
  by : (b : Bool) → cond b (Some y) (find p xs) ≡ Some x → (find p xs ≡ Some x → P x) → P x
  by true k later = subst P (some_is y x k) all.0
  by false k later = later k

module _ (sites_of : Method → Sites) (client woven : Program) (tell : TellAlike sites_of client woven) where
  abbrev Front : Frame → Frame → Type 0
  Front = IsAtFront sites_of client woven

  abbrev Below : Frame → Frame → Type 0
  Below = IsBelow sites_of client woven

  module _ (class : Name) (own : IsClientName class) where
    takes_by : (caught : Option Name)
        → option_map_or (λ (c : Name). is_below woven class c) caught true ≡ option_map_or
        (λ (c : Name). is_below client class c) caught true
    takes_by None = refl
    takes_by (Some c) = tell.below class c own

    catches_front : (sites : Sites) (i : ℕ) → AllByRecursion IsSite sites → (h : Handler) → IsWithin (length sites) h
        → catches woven (front sites i) class (at_fronts (fronts_of sites) h) ≡ catches client i class h
    catches_front sites i all h within =
        let c : covers (front sites i) (at_fronts (fronts_of sites) h) ≡ covers i h = covers_front sites all i h within in
        let t : takes woven class (at_fronts (fronts_of sites) h) ≡ takes client class h = takes_by h.class in
        rw c (rw t refl)

    missed : (sites : Sites) (i : ℕ) (h : Handler) → covers (front sites i) h ≡ false → catches woven (front sites i) class h ≡ false
    missed sites i h e = rw e refl

    found_in : (sites : Sites) (i : ℕ) (handlers : List Handler) → AllByRecursion IsSite sites
        → AllByRecursion (IsWithin (length sites)) handlers
        → has_block sites i ≡ false
        → find (catches woven (front sites i) class) (handlers_with sites handlers) ≡ option_map (at_fronts (fronts_of sites))
        (find (catches client i class) handlers)
    found_in sites i handlers all within alone =
        let test : Handler → Bool = catches woven (front sites i) class in
        let none : find test (own_handlers 0 sites) ≡ None =
        none_found test (own_handlers 0 sites)
        (all_as (λ (h : Handler). covers (front sites i) h ≡ false) (λ (h : Handler). test h ≡ false) (own_handlers 0 sites)
        (missed sites i) (own_miss sites i all alone)) in
        find-append test (own_handlers 0 sites) (map (at_fronts (fronts_of sites)) handlers)
        ∙ ap (λ (o : Option Handler). option_or o (find test (map (at_fronts (fronts_of sites)) handlers))) none
        ∙ found_mapped (catches client i class) test (at_fronts (fronts_of sites)) handlers
        (all_as (IsWithin (length sites)) (λ (h : Handler). test (at_fronts (fronts_of sites) h) ≡ catches client i class h) handlers
        (catches_front sites i all) within)

    pub handler_alike : (frame other : Frame) (b : Below frame other)
        → handler_of woven other class ≡ option_map (at_fronts (fronts_of (sites_of b.mirrors.old))) (handler_of client frame class)
    handler_alike frame other b =
        let m = b.mirrors in
        let sites = sites_of m.old in
        let at : other.at ≡ front sites frame.at = b.at ∙ stands_at_front sites frame.at b.alone in
        let within : AllByRecursion (IsWithin (length sites)) m.old.handlers =
        subst (λ (n : ℕ). AllByRecursion (IsWithin n) m.old.handlers) (sym m.laid.count) m.laid.within in
        rw (m.class, m.method, m.woven_there, m.there, at, m.laid.handlers)
        (found_in sites frame.at m.old.handlers m.laid.blocks within b.alone)

    -- Both catch it, in frames at the front of one handler, or neither does.
    abbrev pub CaughtAlike : Option Frame → Option Frame → Type 0
    CaughtAlike None None = Unit {0}
    CaughtAlike None (Some g) = ⊥
    CaughtAlike (Some f) None = ⊥
    CaughtAlike (Some f) (Some g) = Front f g

    none_there : (frame : Frame) (m : Method) → method_at client frame.class frame.method ≡ Some m → m.handlers ≡ []
        → handler_of client frame class ≡ None
    none_there frame m there none = rw (there, none) refl

    module _ (frame other : Frame) (b : Below frame other) (room : HasRoomToCatch client frame) where
      -- a handler that is found is one of its method's
      handler_is : (h : Handler) → handler_of client frame class ≡ Some h
          → find (catches client frame.at class) b.mirrors.old.handlers ≡ Some h
      handler_is h e =
          let a = and_then_of (λ (method : Method). find (catches client frame.at class) method.handlers)
          (method_at client frame.class frame.method) h e in
          let same : a.0 ≡ b.mirrors.old = some_is a.0 b.mirrors.old (sym a.1 ∙ b.mirrors.there) in
          subst (λ (method : Method). find (catches client frame.at class) method.handlers ≡ Some h) same a.2

      goes_within : (h : Handler) → handler_of client frame class ≡ Some h → h.at ≤ length (sites_of b.mirrors.old)
      goes_within h e =
          let w = all_found (catches client frame.at class)
          (IsWithin (length b.mirrors.old.insns)) b.mirrors.old.handlers h b.mirrors.laid.within (handler_is h e) in
          let at : h.at < length b.mirrors.old.insns = w.at in
          let count : length (sites_of b.mirrors.old) ≡ length b.mirrors.old.insns = b.mirrors.laid.count in
          omega arith

      more_room : 1 ≤ frame.stack.size → 1 ≤ other.stack.size
      more_room h =
          let s : frame.stack.size ≡ b.mirrors.old.max_stack = b.mirrors.size in
          let r : other.stack.size ≡ b.mirrors.new.max_stack = b.mirrors.room in
          let l : b.mirrors.old.max_stack ≤ b.mirrors.new.max_stack = b.mirrors.laid.stack in omega arith

      abbrev caught_by : Frame → Value → Option Handler → Option Frame
      caught_by f thrown o = option_and_then
          (λ (h : Handler). if nat_lt 0 f.stack.size then Some (moved_to f h.at f.locals (thrown ∷ [])) else None) o

      pub caught_alike : (thrown : Value) → CaughtAlike (caught_in client thrown class frame) (caught_in woven thrown class other)
      caught_alike thrown =
          by (handler_of client frame class) (handler_of woven other class) (handler_alike frame other b) goes_within (room class) where
            by : (o p : Option Handler) → p ≡ option_map (at_fronts (fronts_of (sites_of b.mirrors.old))) o
                → ((h : Handler) → o ≡ Some h → h.at ≤ length (sites_of b.mirrors.old))
                → ((h : Handler) → o ≡ Some h → 1 ≤ frame.stack.size)
                → CaughtAlike (caught_by frame thrown o) (caught_by other thrown p)
            by None p e within some = rw e tt
            by (Some h) p e within some =
                let a : nat_lt 0 frame.stack.size ≡ true = lt-ltb 0 frame.stack.size (some h refl) in
                let c : nat_lt 0 other.stack.size ≡ true = lt-ltb 0 other.stack.size (more_room (some h refl)) in
                rw (e, a, c)
                (moved_front sites_of client woven frame other b.mirrors h.at
                (slice_index (fronts_of (sites_of b.mirrors.old)) h.at) frame.locals other.locals (thrown ∷ [])
                b.mirrors.locals b.mirrors.many b.mirrors.wide (front_is (sites_of b.mirrors.old) h.at (within h refl)))

    -- ---- the frames that are left, and the locks that are given up

    frames_or : (o p : Option Frame) (below others left more : List Frame) → CaughtAlike o p → AreBelow sites_of client woven below others
        → AreFrames sites_of client woven Front left more
        → AreFrames sites_of client woven Front (option_map_or (λ (f : Frame). f ∷ below) o left)
        (option_map_or (λ (f : Frame). f ∷ others) p more)
    frames_or None None below others left more c b later = later
    frames_or None (Some g) below others left more c b later = absurd c
    frames_or (Some f) None below others left more c b later = absurd c
    frames_or (Some f) (Some g) below others left more c b later = (c, b)

    pub unwound_alike : (thrown : Value) (frames others : List Frame) → AreBelow sites_of client woven frames others
        → AllByRecursion (HoldsClientValues client) frames
        → AreFrames sites_of client woven Front (unwound client thrown class frames) (unwound woven thrown class others)
    unwound_alike thrown [] [] b holds = tt
    unwound_alike thrown [] (other ∷ others) b holds = absurd b
    unwound_alike thrown (frame ∷ below) [] b holds = absurd b
    unwound_alike thrown (frame ∷ below) (other ∷ others) b holds =
        frames_or (caught_in client thrown class frame) (caught_in woven thrown class other) below others _ _
        (caught_alike frame other b.0 holds.0.room thrown) b.1
        (unwound_alike thrown below others b.1 holds.1)

    locks_or : (o p : Option Frame) (locks others left more : List Value) → CaughtAlike o p → others ≡ locks → more ≡ left
        → option_map_or (λ (f : Frame). []) p (others ++ more) ≡ option_map_or (λ (f : Frame). []) o (locks ++ left)
    locks_or None None locks others left more c e k = rw (e, k) refl
    locks_or None (Some g) locks others left more c e k = absurd c
    locks_or (Some f) None locks others left more c e k = absurd c
    locks_or (Some f) (Some g) locks others left more c e k = refl

    pub locks_alike : (thrown : Value) (frames others : List Frame) → AreBelow sites_of client woven frames others
        → AllByRecursion (HoldsClientValues client) frames → locks_left woven thrown class others ≡ locks_left client thrown class frames
    locks_alike thrown [] [] b holds = refl
    locks_alike thrown [] (other ∷ others) b holds = absurd b
    locks_alike thrown (frame ∷ below) [] b holds = absurd b
    locks_alike thrown (frame ∷ below) (other ∷ others) b holds =
        locks_or (caught_in client thrown class frame) (caught_in woven thrown class other) (option_to_list frame.lock)
        (option_to_list other.lock)
        (locks_left client thrown class below) (locks_left woven thrown class others) (caught_alike frame other b.0 holds.0.room thrown)
        (ap option_to_list b.0.mirrors.lock) (locks_alike thrown below others b.1 holds.1)
