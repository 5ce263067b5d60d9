-- Frames that begin, and threads that rest or go on after a call, do so alike in both programs.
use Rattle.std.proofs.Common.{◌≡◌, ℕ, zero, suc, ◌+◌, ◌≤◌, ◌<◌, Bool, true, false, cond, List, [], ◌∷◌, ◌++◌, length, Option, Some, None, refl, sym, ap, subst, arith}
use Rattle.std.specs.Prelude.{◌==◌, IfSome, if◌then◌else◌, option_and_then, slice_get}
use Rattle.std.specs.List.{AllByRecursion}
use Rattle.std.specs.Option.{option_map_or, option_to_list}
use Rattle.api_listing.specs.declared.events.Event.{Event}
use Rattle.bytecode_model.specs.declared.program.LinkedClass.{LinkedClass}
use Rattle.bytecode_model.specs.declared.program.Method.{Method}
use Rattle.bytecode_model.specs.declared.program.Program.{Program}
use Rattle.bytecode_model.specs.Heads.{is_static, is_synchronized}
use Rattle.guest_heap.specs.declared.frame.Frame.{Frame}
use Rattle.guest_heap.specs.declared.object.Monitor.{Monitor}
use Rattle.guest_heap.specs.declared.thread.Thread.{Thread}
use Rattle.guest_heap.specs.declared.value.Value.{Value}
use Rattle.guest_heap.specs.declared.value.Value.TheVariants as values
use Rattle.guest_model.specs.Calls.{arity}
use Rattle.guest_model.specs.Changes.{World, enters_method, frame_of, goes, lock_of, lock_taken, rests, rests_now, returned, with_event, with_monitors}
use Rattle.guest_model.specs.Finding.{Given}
use Rattle.guest_model.specs.Parts.{main_argument}
use Rattle.guest_model.specs.Places.{method_at}
use Rattle.guest_model.proofs.Options.{and_then_of}
use Rattle.guest_erasing.specs.Laid.{HasCounterpart, IsLaid, TellAlike}
use Rattle.guest_erasing.specs.Mirrors.{AreBelow, CanBegin, IsAtFront, IsClientValue, ThreadMirrors, taken_locals}
use Rattle.guest_erasing.specs.Places.{Sites}
use Rattle.guest_erasing.proofs.Alike.{Alike, alike_map, alike_some, alike_then, alike_told}
use Rattle.guest_erasing.proofs.Changing.{Changed, Made, ended_mirrors, event_mirrors, goes_mirror, running_mirrors}
use Rattle.guest_erasing.proofs.Framing.{after_alike}
use Rattle.guest_erasing.proofs.Lists.{get_within, many_filled, take_filled}
use Rattle.guest_erasing.proofs.Placing.{front_zero}
use Rattle.guest_erasing.proofs.Worlds.{Goes, HeldAlike, entered_alike, given_class, held_goes, same_held}

-- a method that is there is one of a class of the program
pub class_within : (program : Program) (class index : ℕ) (method : Method) → method_at program class index ≡ Some method
    → class < length program.classes
class_within program class index method e =
    let a = and_then_of (λ (c : LinkedClass). slice_get c.methods index) (slice_get program.classes class) method e in
    get_within program.classes class a.0 a.1

not_zero : (n : ℕ) → (n == 0) ≡ false → 1 ≤ n
not_zero zero e = absurd cc
not_zero (suc n) e = omega arith

module _ (sites_of : Method → Sites) (client woven : Program) (tell : TellAlike sites_of client woven) where
  -- ---- a frame that begins

  pub same_lock : (class : ℕ) (method other : Method) (receiver : Option Value) → IsLaid (sites_of method) method other
      → lock_of woven class other receiver ≡ lock_of client class method receiver
  same_lock class method other receiver laid = rw (laid.flags, tell.listing) refl

  pub begun_front : (to : Given) (method : Method) (there : method_at client to.0 to.1 ≡ Some method)
      (new : HasCounterpart sites_of woven to.0 to.1 method)
      (receiver : Option Value) (arguments : List Value) → length (option_to_list receiver ++ arguments) ≤ method.max_locals
      → IsAtFront sites_of client woven (frame_of client to method receiver arguments) (frame_of woven to new.new receiver arguments)
  begun_front to method there new receiver arguments few =
      let taken = option_to_list receiver ++ arguments in
      record {
        mirrors = record {
          old = method;
          new = new.new;
          there = there;
          woven_there = new.there;
          laid = new.laid;
          class = refl;
          method = refl;
          lock = same_lock to.0 method new.new receiver new.laid;
          locals = take_filled taken method.max_locals new.new.max_locals values.Null few new.laid.locals;
          many = many_filled taken method.max_locals values.Null few;
          wide = many_filled taken new.new.max_locals values.Null (omega (arith, few, new.laid.locals));
          items = refl;
          size = refl;
          room = refl;
        };
        at = sym (front_zero (sites_of method));
      }

  -- ---- what is begun without a call

  begun_few : (method : Method) → taken_locals method ≤ method.max_locals
      → length (if arity method.desc == 0 then [] else main_argument client ∷ []) ≤ method.max_locals
  begun_few method h = by (arity method.desc == 0) (is_static method.flags) refl h where
    by : (b c : Bool) → (arity method.desc == 0) ≡ b → cond c (arity method.desc) (arity method.desc + 1) ≤ method.max_locals
        → length (cond b [] (main_argument client ∷ [])) ≤ method.max_locals
    by true c e k = omega arith
    by false true e k = let some : 1 ≤ arity method.desc = not_zero (arity method.desc) e in omega arith
    by false false e k = omega arith

  -- what a method is given that begins without a call
  abbrev given_to : Program → Method → List Value
  given_to program method = if arity method.desc == 0 then [] else main_argument program ∷ []

  same_given : (method other : Method) → IsLaid (sites_of method) method other → given_to woven other ≡ given_to client method
  same_given method other laid = rw (laid.desc, tell.listing) refl

  begun_given : (to : Given) (can : CanBegin client to) (new : HasCounterpart sites_of woven to.0 to.1 can.method)
      → IsAtFront sites_of client woven (frame_of client to can.method None (given_to client can.method))
      (frame_of woven to new.new None (given_to woven new.new))
  begun_given to can new =
      subst (λ (arguments : List Value). IsAtFront sites_of client woven (frame_of client to can.method None (given_to client can.method))
      (frame_of woven to new.new None arguments))
      (sym (same_given can.method new.new new.laid))
      (begun_front to can.method can.there new None (given_to client can.method) (begun_few can.method can.takes))

  pub rests_alike : (to_begin : List Given) → AllByRecursion (CanBegin client) to_begin
      → ThreadMirrors sites_of client woven (rests client to_begin) (rests woven to_begin)
  rests_alike [] all = ended_mirrors sites_of client woven
  rests_alike (next ∷ to_begin) all =
      let new = tell.methods next.0 next.1 all.0.method all.0.there in
      rw (all.0.there, new.there)
      (running_mirrors sites_of client woven (frame_of client next all.0.method None (given_to client all.0.method) ∷ [])
      (frame_of woven next new.new None (given_to woven new.new) ∷ []) to_begin to_begin refl (begun_given next all.0 new, tt))

  module _ (before world other : World) (g : Goes client before world other) (thread more : Thread)
      (same : more.to_begin ≡ thread.to_begin) where
    -- ---- returning

    pub returned_alike : AllByRecursion (CanBegin client) thread.to_begin → (frames others : List Frame)
        → AreBelow sites_of client woven frames others
        → (result : Option Value) (event : Option Event)
        → Made sites_of client woven before (returned client world thread frames result event)
        (returned woven other more others result event)
    returned_alike begins [] [] b result event =
        alike_some (Changed sites_of client woven before) _ _
        (subst (λ (to_begin : List Given). Changed sites_of client woven before (with_event (rests_now client world thread) event)
        (with_event (record { world = other; thread = rests woven to_begin; begins = None; stops = None; event = None }) event)) (sym same)
        (record {
          world = g.mirrors;
          keeps = g.keeps;
          thread = rests_alike thread.to_begin begins;
          begins = tt;
          stops = refl;
          event = refl;
        }))
    returned_alike begins [] (caller ∷ others) b result event = absurd b
    returned_alike begins (caller ∷ below) [] b result event = absurd b
    returned_alike begins (caller ∷ below) (next ∷ others) b result event =
        alike_map (IsAtFront sites_of client woven) (Changed sites_of client woven before) _ _ _ _
        (after_alike sites_of client woven caller next b.0 (option_to_list result ++ caller.stack.items)
        (option_to_list result ++ next.stack.items)
        (ap (λ (items : List Value). option_to_list result ++ items) b.0.mirrors.items))
        (λ f h e k at. event_mirrors sites_of client woven before (goes world thread (f ∷ below)) (goes other more (h ∷ others)) event
        (goes_mirror sites_of client woven before world other g thread more same (f ∷ below) (h ∷ others) (at, b.1)))

    -- ---- calling a method of the client

    taken_alike : (number : ℕ) (lock : Option Value) → IfSome lock (IsClientValue client)
        → Alike (HeldAlike client before world other g) (lock_taken world.monitors number lock) (lock_taken other.monitors number lock)
    taken_alike number None c =
        alike_some (HeldAlike client before world other g) world.monitors other.monitors (same_held client before world other g)
    taken_alike number (Some on) c = entered_alike client before world other g number on c

    lock_is : (b : Bool) (class : ℕ) (receiver : Option Value) → class < length client.classes → IfSome receiver (IsClientValue client)
        → IfSome (cond b (Some (option_map_or (λ (v : Value). v) receiver (values.Class (length client.listing.classes + class)))) None)
        (IsClientValue client)
    lock_is false class receiver h c = tt
    lock_is true class None h c = given_class client class h
    lock_is true class (Some v) h c = c

    pub enters_alike : (number : ℕ) (waiting others : List Frame) → AreBelow sites_of client woven waiting others
        → (to : Given) (receiver : Option Value) (arguments : List Value) → IfSome receiver (IsClientValue client)
        → ((method : Method) → method_at client to.0 to.1 ≡ Some method → length (option_to_list receiver ++ arguments) ≤ method.max_locals)
        → Made sites_of client woven before (enters_method client world number thread waiting to receiver arguments)
        (enters_method woven other number more others to receiver arguments)
    enters_alike number waiting others b to receiver arguments own few =
        alike_then (λ (m n : Method). (h : HasCounterpart sites_of woven to.0 to.1 m) × (h.new ≡ n))
        (Changed sites_of client woven before) _ _
        (method_at client to.0 to.1) (method_at woven to.0 to.1)
        (alike_told _ _ _ (λ m e. let h = tell.methods to.0 to.1 m e in (h.new, h.there, (h, refl))))
        (λ m n e k h.
        subst (λ (n : Method). Made sites_of client woven before
        (option_and_then (λ (held : List Monitor). Some
        (goes (with_monitors world held) thread (frame_of client to m receiver arguments ∷ waiting)))
        (lock_taken world.monitors number (lock_of client to.0 m receiver)))
        (option_and_then (λ (held : List Monitor). Some
        (goes (with_monitors other held) more (frame_of woven to n receiver arguments ∷ others)))
        (lock_taken other.monitors number (lock_of woven to.0 n receiver)))) h.1
        (subst (λ (lock : Option Value). Made sites_of client woven before
        (option_and_then (λ (held : List Monitor). Some
        (goes (with_monitors world held) thread (frame_of client to m receiver arguments ∷ waiting)))
        (lock_taken world.monitors number (lock_of client to.0 m receiver)))
        (option_and_then (λ (held : List Monitor). Some
        (goes (with_monitors other held) more (frame_of woven to h.0.new receiver arguments ∷ others)))
        (lock_taken other.monitors number lock)))
        (sym (same_lock to.0 m h.0.new receiver h.0.laid))
        (alike_then (HeldAlike client before world other g) (Changed sites_of client woven before) _ _ _ _
        (taken_alike number (lock_of client to.0 m receiver)
        (lock_is (is_synchronized m.flags) to.0 receiver (class_within client to.0 to.1 m e) own))
        (λ held more_held i j a.
        alike_some (Changed sites_of client woven before) _ _
        (goes_mirror sites_of client woven before (with_monitors world held) (with_monitors other more_held)
        (held_goes client before world other g held more_held a)
        thread more same (frame_of client to m receiver arguments ∷ waiting) (frame_of woven to h.0.new receiver arguments ∷ others)
        (begun_front to m e h.0 receiver arguments (few m e), b))))))
