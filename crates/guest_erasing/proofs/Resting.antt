-- A machine that mirrors its client's is at rest: no thread has to leave a block, and one at an instruction without a block has no call to
-- go to.
use Rattle.std.proofs.Common.{◌≡◌, ◌∙◌, ℕ, zero, suc, ◌+◌, ◌==◌, List, [], ◌∷◌, Bool, true, false, not, Option, Some, None, refl, sym, ap, arith}
use Rattle.std.specs.Prelude.{nat_lt, option_and_then, slice_get}
use Rattle.std.specs.List.{AllByRecursion}
use Rattle.std.specs.Option.{option_map_or}
use Rattle.api_listing.specs.declared.events.Event.{Event}
use Rattle.bytecode_model.specs.declared.program.Method.{Method}
use Rattle.bytecode_model.specs.declared.program.Program.{Program}
use Rattle.guest_heap.specs.declared.frame.Frame.{Frame}
use Rattle.guest_heap.specs.declared.thread.Doing.{Doing}
use Rattle.guest_heap.specs.declared.thread.Doing.TheVariants as doings
use Rattle.guest_heap.specs.declared.thread.Thread.{Thread}
use Rattle.guest_model.specs.declared.machine.Machine.{Machine}
use Rattle.guest_model.specs.declared.machine.Step.{Step}
use Rattle.guest_model.specs.Places.{method_at}
use Rattle.offset_patch.specs.declared.block.Block.{Block}
use Rattle.offset_patch.specs.Fits.{IsSite}
use Rattle.offset_patch.specs.Splicing.{call_place, part_of}
use Rattle.guest_erasing.specs.Climbing.{Lifts}
use Rattle.guest_erasing.specs.Lifting.{frame_run, goes_out, goes_up, sites_at}
use Rattle.guest_erasing.specs.Mirrors.{AreAlike, FrameMirrors, FramesMirror, IsAtFront, Mirrors, ThreadMirrors}
use Rattle.guest_erasing.specs.Places.{Sites, front, has_block, is_before_call, is_inside, stand}
use Rattle.guest_erasing.specs.Steps.{IsAlone, IsMadeAlike, is_alone}
use Rattle.guest_erasing.proofs.Erased.{own_front}

-- ---- numbers

equal_self : (n : ℕ) → (n == n) ≡ true
equal_self n = grind (arith)

not_below_self : (n : ℕ) → nat_lt n n ≡ false
not_below_self n = grind (arith)

-- ---- places

-- An instruction without a block stands where its part begins.
pub stand_alone : (sites : Sites) (index : ℕ) → has_block sites index ≡ false → stand sites index ≡ front sites index
unfolding call_place
stand_alone [] index e = refl
stand_alone (None ∷ sites) zero e = refl
stand_alone (Some block ∷ sites) zero e = absurd cc
stand_alone (site ∷ sites) (suc index) e = ap (λ (n : ℕ). length_of site + n) (stand_alone sites index e)
  where
    length_of : Option Block → ℕ
    length_of s = Rattle.std.specs.Prelude.length (part_of s)

front_rests : (sites : Sites) → AllByRecursion IsSite sites → (index : ℕ) → is_inside sites (front sites index) ≡ false
front_rests sites are index =
    ap (λ (i : ℕ). not (front sites index == front sites i)) (own_front sites are index) ∙ ap not (equal_self (front sites index))

front_calls : (sites : Sites) → AllByRecursion IsSite sites → (index : ℕ) → has_block sites index ≡ false → is_before_call sites (front sites index) ≡ false
front_calls sites are index alone =
    ap (λ (i : ℕ). nat_lt (front sites index) (stand sites i)) (own_front sites are index) ∙ ap (λ (n : ℕ). nat_lt (front sites index) n) (stand_alone sites index alone)
    ∙ not_below_self (front sites index)

-- ---- frames

module _ (sites_of : Method → Sites) (client woven : Program) where
  sites_same : (frame other : Frame) (m : FrameMirrors sites_of client woven frame other) → sites_at sites_of client woven other ≡ sites_of m.old
  sites_same frame other m =
      ap (λ (c : ℕ). option_map_or sites_of (method_at client c other.method) []) m.class ∙ ap (λ (n : ℕ). option_map_or sites_of (method_at client frame.class n) []) m.method
      ∙ ap (λ (o : Option Method). option_map_or sites_of o []) m.there

  frame_rests : (frame other : Frame) → IsAtFront sites_of client woven frame other → is_inside (sites_at sites_of client woven other) other.at ≡ false
  frame_rests frame other is =
      ap (λ (sites : Sites). is_inside sites other.at) (sites_same frame other is.mirrors) ∙ ap (is_inside (sites_of is.mirrors.old)) is.at
      ∙ front_rests (sites_of is.mirrors.old) is.mirrors.laid.blocks frame.at

  alone_so : (frame : Frame) (old : Method) → method_at client frame.class frame.method ≡ Some old → is_alone sites_of client frame ≡ true → has_block (sites_of old) frame.at ≡ false
  alone_so frame old there alone =
      let same : not (has_block (sites_of old) frame.at) ≡ true =
      sym (ap (λ (o : Option Method). option_map_or (λ method. not (has_block (sites_of method) frame.at)) o false) there) ∙ alone in
      by (has_block (sites_of old) frame.at) same
    where
      by : (b : Bool) → not b ≡ true → b ≡ false
      by true e = sym e
      by false e = refl

  frame_stays : (frame other : Frame) → IsAtFront sites_of client woven frame other → is_alone sites_of client frame ≡ true → is_before_call (sites_at sites_of client woven other) other.at ≡ false
  frame_stays frame other is alone =
      ap (λ (sites : Sites). is_before_call sites other.at) (sites_same frame other is.mirrors) ∙ ap (is_before_call (sites_of is.mirrors.old)) is.at
      ∙ front_calls (sites_of is.mirrors.old) is.mirrors.laid.blocks frame.at (alone_so frame is.mirrors.old is.mirrors.there alone)

  -- ---- threads

  abbrev out_of : Option Frame → Bool
  out_of frame = option_map_or (λ (f : Frame). is_inside (sites_at sites_of client woven f) f.at) frame false

  abbrev up_of : Option Frame → Bool
  up_of frame = option_map_or (λ (f : Frame). is_before_call (sites_at sites_of client woven f) f.at) frame false

  run_rests : (doing : Doing) (frames others : List Frame) → FramesMirror sites_of client woven doing frames others → out_of (frame_run doing others) ≡ false
  run_rests doings.Running [] [] are = refl
  run_rests doings.Running [] (other ∷ others) are = absurd are
  run_rests doings.Running (frame ∷ frames) [] are = refl
  run_rests doings.Running (frame ∷ frames) (other ∷ others) are = frame_rests frame other are.0
  run_rests (doings.InCall method receiver arguments) frames others are = refl
  run_rests doings.Ended frames others are = refl

  run_stays : (doing : Doing) (frames others : List Frame) → FramesMirror sites_of client woven doing frames others
      → (frame : Frame) → slice_get frames 0 ≡ Some frame → is_alone sites_of client frame ≡ true → up_of (frame_run doing others) ≡ false
  run_stays doings.Running [] others are frame top alone = absurd cc
  run_stays doings.Running (first ∷ frames) [] are frame top alone = refl
  run_stays doings.Running (first ∷ frames) (other ∷ others) are frame top alone =
      let same : first ≡ frame = cc in
      frame_stays first other are.0 (ap (is_alone sites_of client) same ∙ alone)
  run_stays (doings.InCall method receiver arguments) frames others are frame top alone = refl
  run_stays doings.Ended frames others are frame top alone = refl

  thread_rests : (thread other : Thread) → ThreadMirrors sites_of client woven thread other → out_of (frame_run other.doing other.frames) ≡ false
  thread_rests thread other m =
      ap (λ (d : Doing). out_of (frame_run d other.frames)) m.doing ∙ run_rests thread.doing thread.frames other.frames m.frames

  -- ---- machines

  threads_rest : (threads others : List Thread) → AreAlike (ThreadMirrors sites_of client woven) threads others → (number : ℕ)
      → out_of (option_and_then (λ (t : Thread). frame_run t.doing t.frames) (slice_get others number)) ≡ false
  threads_rest [] [] are number = refl
  threads_rest [] (other ∷ others) are number = absurd are
  threads_rest (thread ∷ threads) [] are number = absurd are
  threads_rest (thread ∷ threads) (other ∷ others) are zero = thread_rests thread other are.0
  threads_rest (thread ∷ threads) (other ∷ others) are (suc number) = threads_rest threads others are.1 number

  -- No thread has to leave a block.
  pub rests_out : (machine other : Machine) → Mirrors sites_of client woven machine other → (number : ℕ) → goes_out sites_of client woven other number ≡ false
  rests_out machine other m number = threads_rest machine.threads other.threads m.threads number

  threads_stay : (threads others : List Thread) → AreAlike (ThreadMirrors sites_of client woven) threads others → (number : ℕ) (thread : Thread) → slice_get threads number ≡ Some thread
      → (frame : Frame) → slice_get thread.frames 0 ≡ Some frame → is_alone sites_of client frame ≡ true
      → up_of (option_and_then (λ (t : Thread). frame_run t.doing t.frames) (slice_get others number)) ≡ false
  threads_stay [] others are number thread there frame top alone = absurd cc
  threads_stay (first ∷ threads) [] are number thread there frame top alone = absurd are
  threads_stay (first ∷ threads) (other ∷ others) are zero thread there frame top alone =
      let same : first ≡ thread = cc in
      ap (λ (d : Doing). up_of (frame_run d other.frames)) are.0.doing
      ∙ run_stays first.doing first.frames other.frames are.0.frames frame (ap (λ (t : Thread). slice_get t.frames 0) same ∙ top) alone
  threads_stay (first ∷ threads) (other ∷ others) are (suc number) thread there frame top alone = threads_stay threads others are.1 number thread there frame top alone

  -- A thread at an instruction without a block has no call to go to.
  pub rests_up : (machine other : Machine) → Mirrors sites_of client woven machine other → (step : Step) → IsAlone sites_of client machine step
      → goes_up sites_of client woven other step.thread ≡ false
  rests_up machine other m step is = threads_stay machine.threads other.threads m.threads step.thread is.thread is.there is.frame is.top is.alone

  -- So a step there is lifted to itself.
  pub client_lifts : (machine other : Machine) → Mirrors sites_of client woven machine other → (step : Step) → IsAlone sites_of client machine step
      → (made : Machine × Option Event) (alike : IsMadeAlike sites_of client woven other step made) → Lifts sites_of client woven other step made.1 alike.after
  client_lifts machine other m step is made alike = record {
    up = 0;
    there = other;
    climbs = (rests_up machine other m step is, refl);
    few = omega arith;
    made = alike.after;
    steps = alike.steps;
    out = 0;
    leaves = (rests_out made.0 alike.after alike.mirrors step.thread, refl);
    few_out = omega arith;
  }
