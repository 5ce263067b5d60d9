-- A machine that mirrors its client's is that machine, once what weaving added is erased.
use Rattle.std.proofs.Common.{◌≡◌, ◌∙◌, ◌<◌, ℕ, zero, suc, ◌+◌, ◌-◌, List, [], ◌∷◌, length, map, Bool, true, false, cond, Option, Some, None, refl, sym, ap, arith}
use Rattle.std.specs.Prelude.{nat_lt, option_map}
use Rattle.std.specs.List.{AllByRecursion}
use Rattle.std.specs.Option.{option_map_or}
use Rattle.bytecode_model.specs.declared.program.Method.{Method}
use Rattle.bytecode_model.specs.declared.program.Program.{Program}
use Rattle.guest_heap.specs.declared.frame.Frame.{Frame}
use Rattle.guest_heap.specs.declared.object.Object.{Object}
use Rattle.guest_heap.specs.declared.object.Object.TheVariants as objects
use Rattle.guest_heap.specs.declared.thread.Doing.{Doing}
use Rattle.guest_heap.specs.declared.thread.Doing.TheVariants as doings
use Rattle.guest_heap.specs.declared.thread.Thread.{Thread}
use Rattle.guest_heap.specs.declared.value.Value.{Value}
use Rattle.guest_model.specs.declared.machine.Machine.{Machine}
use Rattle.guest_model.specs.Places.{method_at}
use Rattle.offset_patch.specs.declared.block.Block.{Block}
use Rattle.offset_patch.specs.declared.block.BlockInsn.{BlockInsn}
use Rattle.offset_patch.specs.declared.block.BlockInsn.TheVariants.{Plain, Byte, Short, Local, Want, Jump, Call}
use Rattle.offset_patch.specs.Fits.{IsSite, calls_in}
use Rattle.offset_patch.specs.Splicing.{call_place, part_of}
use Rattle.guest_erasing.specs.Erasing.{erased, erased_frame, erased_plainly, erased_thread, frame_erased}
use Rattle.guest_erasing.specs.Mirrors.{AreAlike, AreBelow, AreFrames, FrameMirrors, FramesMirror, IsAtCall, IsAtFront, IsBelow, Mirrors, ThreadMirrors}
use Rattle.guest_erasing.specs.Places.{Sites, front, own, stand}
use Rattle.guest_erasing.specs.Renumbering.{doing_with, frame_with, machine_with, monitor_with, object_with, thread_with}

-- ---- places

-- a place of a part, and one after it
within : (part rest : ℕ) → rest < part → nat_lt rest part ≡ true
within part rest less = grind (arith)

beyond : (part rest : ℕ) → nat_lt (part + rest) part ≡ false
beyond part rest = grind (arith)

suc_less : {n m : ℕ} → n < m → suc n < suc m
suc_less h = omega (arith, h)

-- the place of the call of a block that has one
pub call_within : (insns : List BlockInsn) → calls_in insns ≡ 1 → call_place insns < length insns
unfolding call_place
call_within [] e = absurd cc
call_within (Call ∷ insns) e = omega arith
call_within (Plain op ∷ insns) e = suc_less (call_within insns e)
call_within (Byte n ∷ insns) e = suc_less (call_within insns e)
call_within (Short n ∷ insns) e = suc_less (call_within insns e)
call_within (Local op slot wide ∷ insns) e = suc_less (call_within insns e)
call_within (Want op want ∷ insns) e = suc_less (call_within insns e)
call_within (Jump op place ∷ insns) e = suc_less (call_within insns e)

pub stands_within : (site : Option Block) → IsSite site → call_place (part_of site) < length (part_of site)
unfolding call_place
stands_within None is = omega arith
stands_within (Some block) is = call_within block.insns is.once

pub part_some : (site : Option Block) → IsSite site → 0 < length (part_of site)
part_some site is = omega (arith, stands_within site is)

pub own_front : (sites : Sites) → AllByRecursion IsSite sites → (index : ℕ) → own sites (front sites index) ≡ index
own_front [] are index = refl
own_front (site ∷ sites) are zero =
    ap (λ (b : Bool). cond b zero (suc (own sites (0 - length (part_of site))))) (within (length (part_of site)) 0 (part_some site are.0))
own_front (site ∷ sites) are (suc index) =
    ap (λ (b : Bool). cond b zero (suc (own sites (length (part_of site) + front sites index - length (part_of site))))) (beyond (length (part_of site)) (front sites index))
    ∙ ap (λ (n : ℕ). suc (own sites n)) (less (length (part_of site)) (front sites index)) ∙ ap suc (own_front sites are.1 index)
  where
    less : (n m : ℕ) → n + m - n ≡ m
    less n m = omega arith

pub own_stand : (sites : Sites) → AllByRecursion IsSite sites → (index : ℕ) → own sites (stand sites index) ≡ index
own_stand [] are index = refl
own_stand (site ∷ sites) are zero =
    ap (λ (b : Bool). cond b zero (suc (own sites (call_place (part_of site) - length (part_of site))))) (within (length (part_of site)) (call_place (part_of site)) (stands_within site are.0))
own_stand (site ∷ sites) are (suc index) =
    ap (λ (b : Bool). cond b zero (suc (own sites (length (part_of site) + stand sites index - length (part_of site))))) (beyond (length (part_of site)) (stand sites index))
    ∙ ap (λ (n : ℕ). suc (own sites n)) (less (length (part_of site)) (stand sites index)) ∙ ap suc (own_stand sites are.1 index)
  where
    less : (n m : ℕ) → n + m - n ≡ m
    less n m = omega arith

-- ---- values that stay as they are

as_is : Value → Value
as_is v = v

each_same : {X : Type 0} (f : X → X) → ((x : X) → f x ≡ x) → (xs : List X) → map f xs ≡ xs
each_same f same [] = refl
each_same f same (x ∷ xs) = rw (same x, each_same f same xs) refl

values_same : (vs : List Value) → map (λ (v : Value). v) vs ≡ vs
values_same vs = each_same (λ v. v) (λ v. refl) vs

value_same : (v : Option Value) → option_map (λ (w : Value). w) v ≡ v
value_same None = refl
value_same (Some v) = refl

object_same : (o : Object) → object_with (λ v. v) o ≡ o
object_same (objects.Plain class fields target thread) = ap (λ fs. objects.Plain class fs target thread) (values_same fields)
object_same (objects.Array desc items) = ap (λ vs. objects.Array desc vs) (values_same items)
object_same (objects.Text text) = refl

frame_same : (f : Frame) → frame_with (λ v. v) f ≡ f
frame_same f = rw (values_same f.locals, values_same f.stack.items, value_same f.lock) refl

doing_same : (d : Doing) → doing_with (λ v. v) d ≡ d
doing_same doings.Running = refl
doing_same (doings.InCall method receiver arguments) = rw (value_same receiver, values_same arguments) refl
doing_same doings.Ended = refl

thread_same : (t : Thread) → thread_with (λ v. v) t ≡ t
thread_same t = rw (each_same (frame_with (λ v. v)) frame_same t.frames, doing_same t.doing) refl

-- Where each value stays as it is, so does the machine.
pub machine_same : (m : Machine) → machine_with (λ v. v) m ≡ m
machine_same m =
    rw (
      each_same (object_with (λ v. v)) object_same m.heap,
      each_same (map (λ (v : Value). v)) values_same m.statics,
      each_same (monitor_with (λ v. v)) (λ x. refl) m.monitors,
      each_same (thread_with (λ v. v)) thread_same m.threads,
    ) refl

-- ---- frames, threads and machines

module _ (sites_of : Method → Sites) (client woven : Program) where
  frame_is : (frame other : Frame) (m : FrameMirrors sites_of client woven frame other) → own (sites_of m.old) other.at ≡ frame.at → erased_frame sites_of client other ≡ frame
  frame_is frame other m at =
      ap (λ (c : ℕ). option_map_or (λ (method : Method). frame_erased method (sites_of method) other) (method_at client c other.method) other) m.class
      ∙ ap (λ (n : ℕ). option_map_or (λ (method : Method). frame_erased method (sites_of method) other) (method_at client frame.class n) other) m.method
      ∙ ap (λ (o : Option Method). option_map_or (λ (method : Method). frame_erased method (sites_of method) other) o other) m.there
      ∙ rw (m.class, m.method, at, m.locals, m.items, sym m.size, m.lock) refl

  at_front : (frame other : Frame) → IsAtFront sites_of client woven frame other → erased_frame sites_of client other ≡ frame
  at_front frame other is = frame_is frame other is.mirrors (ap (own (sites_of is.mirrors.old)) is.at ∙ own_front (sites_of is.mirrors.old) is.mirrors.laid.blocks frame.at)

  at_call : (frame other : Frame) → IsAtCall sites_of client woven frame other → erased_frame sites_of client other ≡ frame
  at_call frame other is = frame_is frame other is.mirrors (ap (own (sites_of is.mirrors.old)) is.at ∙ own_stand (sites_of is.mirrors.old) is.mirrors.laid.blocks frame.at)

  under : (frame other : Frame) → IsBelow sites_of client woven frame other → erased_frame sites_of client other ≡ frame
  under frame other is = frame_is frame other is.mirrors (ap (own (sites_of is.mirrors.old)) is.at ∙ own_stand (sites_of is.mirrors.old) is.mirrors.laid.blocks frame.at)

  all_under : (frames others : List Frame) → AreBelow sites_of client woven frames others → map (erased_frame sites_of client) others ≡ frames
  all_under [] [] are = refl
  all_under [] (other ∷ others) are = absurd are
  all_under (frame ∷ frames) [] are = absurd are
  all_under (frame ∷ frames) (other ∷ others) are = rw (under frame other are.0, all_under frames others are.1) refl

  all_frames : (Top : Frame → Frame → Type 0) → ((frame other : Frame) → Top frame other → erased_frame sites_of client other ≡ frame)
      → (frames others : List Frame) → AreFrames sites_of client woven Top frames others → map (erased_frame sites_of client) others ≡ frames
  all_frames Top top [] [] are = refl
  all_frames Top top [] (other ∷ others) are = absurd are
  all_frames Top top (frame ∷ frames) [] are = absurd are
  all_frames Top top (frame ∷ frames) (other ∷ others) are = rw (top frame other are.0, all_under frames others are.1) refl

  frames_of : (doing : Doing) (frames others : List Frame) → FramesMirror sites_of client woven doing frames others → map (erased_frame sites_of client) others ≡ frames
  frames_of doings.Running frames others are = all_frames (IsAtFront sites_of client woven) at_front frames others are
  frames_of (doings.InCall method receiver arguments) frames others are = all_frames (IsAtCall sites_of client woven) at_call frames others are
  frames_of doings.Ended frames others are = ap (map (erased_frame sites_of client)) are.1 ∙ sym are.0

  thread_is : (thread other : Thread) → ThreadMirrors sites_of client woven thread other → erased_thread sites_of client other ≡ thread
  thread_is thread other m = rw (m.doing, m.to_begin, frames_of thread.doing thread.frames other.frames m.frames) refl

  threads_are : (threads others : List Thread) → AreAlike (ThreadMirrors sites_of client woven) threads others → map (erased_thread sites_of client) others ≡ threads
  threads_are [] [] are = refl
  threads_are [] (other ∷ others) are = absurd are
  threads_are (thread ∷ threads) [] are = absurd are
  threads_are (thread ∷ threads) (other ∷ others) are = rw (thread_is thread other are.0, threads_are threads others are.1) refl

  pub erased_is : (machine other : Machine) → Mirrors sites_of client woven machine other → erased sites_of client (λ v. v) other ≡ machine
  erased_is machine other m =
      machine_same (erased_plainly sites_of client other)
      ∙ rw (m.heap, m.statics, m.monitors, threads_are machine.threads other.threads m.threads, m.stopped) refl
