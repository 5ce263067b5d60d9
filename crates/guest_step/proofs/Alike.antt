-- What a thread does while another stands in its place among the threads: the same, where that has ended exactly where it has.
use Rattle.std.proofs.Common.{◌≡◌, ℕ, zero, suc, Bool, true, false, cond, List, [], ◌∷◌, length, Option, Some, None, refl, sym, ap, ◌∙◌}
use Rattle.std.specs.Prelude.{slice_get, slice_set, option_map, option_and_then}
use Rattle.std.specs.Option.{option_map_or, option_or}
use Rattle.std.proofs.lemmas.List.{length-set}
use Rattle.insn_codec.specs.declared.insn.Insn.{Insn}
use Rattle.insn_codec.specs.declared.shape.Heap.{Heap}
use Rattle.insn_codec.specs.declared.shape.Heap.TheVariants as heap
use Rattle.insn_codec.specs.declared.shape.How.{How}
use Rattle.insn_codec.specs.Shapes.{shape_of}
use Rattle.bytecode_model.specs.declared.program.Program.{Program}
use Rattle.bytecode_model.specs.declared.program.Target.{Target}
use Rattle.bytecode_model.specs.declared.program.Target.TheVariants as target
use Rattle.guest_heap.specs.declared.frame.Frame.{Frame}
use Rattle.guest_heap.specs.declared.thread.Doing.{Doing}
use Rattle.guest_heap.specs.declared.thread.Doing.TheVariants as doings
use Rattle.guest_heap.specs.declared.thread.Thread.{Thread}
use Rattle.guest_heap.specs.declared.value.Value.{Value}
use Rattle.guest_frames.specs.Stepping.{frame_stepped}
use Rattle.guest_frames.specs.Values.{is_null}
use Rattle.guest_model.specs.declared.machine.Choice.{Choice}
use Rattle.guest_model.specs.declared.machine.Choice.TheVariants as choices
use Rattle.guest_model.specs.declared.machine.Machine.{Machine}
use Rattle.guest_model.specs.Calls.{Taken, arity, taken}
use Rattle.guest_model.specs.Places.{insn_at}
use Rattle.guest_model.specs.Parts.{null_pointer}
use Rattle.guest_model.specs.declared.builtin.Builtin.{Builtin}
use Rattle.guest_model.specs.declared.builtin.Builtin.TheVariants as builtins
use Rattle.guest_model.specs.Builtins.{builtin_at}
use Rattle.guest_model.specs.Calling.{Calling, begun_thread, built_in, call_throws, calls, calls_named, desc_named, goes_past, has_ended, is_ended, is_static_call, joined, joins, run_of, started, started_as, starts, target_of, thread_of_value, with_begun, with_changed}
use Rattle.guest_model.specs.Changes.{Change, with_heap, world_of}
use Rattle.guest_model.specs.Stepping.{Acting, acts_on, doing_stepped, frames_stepped, heap_in, heap_stepped}

and_then_ext : {A B : Type 0} (f g : A → Option B) (o : Option A) → ((x : A) → f x ≡ g x) → option_and_then f o ≡ option_and_then g o
and_then_ext f g None same = refl
and_then_ext f g (Some x) same = same x

-- the machine with other threads
abbrev pub with_threads : Machine → List Thread → Machine
with_threads m threads = record { heap = m.heap; statics = m.statics; monitors = m.monitors; threads = threads; stopped = m.stopped }

module _ (program : Program) (m : Machine) (threads : List Thread) (count : length threads ≡ length m.threads)
    (ended : (k : ℕ) → has_ended (with_threads m threads) k ≡ has_ended m k) where
  abbrev other : Machine
  other = with_threads m threads

  started_alike : (c : Calling) (on : Value) (o : Option ℕ) → started program other c on o ≡ started program m c on o
  started_alike c on (Some number) = refl
  started_alike c on None =
      ap (λ (n : ℕ). option_map (λ (change : Change). with_begun change (begun_thread program (option_or (run_of program m.heap on) (run_of program m.heap (target_of m.heap on)))))
      (goes_past (with_heap (world_of m) (with_changed m.heap on (started_as n))) c [])) count

  joined_alike : (c : Calling) (o : Option ℕ) → joined other c o ≡ joined m c o
  joined_alike c None = refl
  joined_alike c (Some number) = ap (λ (b : Bool). cond b (goes_past (world_of m) c []) None) (ended number)

  unless_null : (c : Calling) (b : Bool) (v : Value) (f g : Value → Option Change) → f v ≡ g v
      → cond b (Some (call_throws program (world_of m) c null_pointer)) (f v) ≡ cond b (Some (call_throws program (world_of m) c null_pointer)) (g v)
  unless_null c true v f g same = refl
  unless_null c false v f g same = same

  built_alike : (c : Calling) (how : How) (what : Builtin) → built_in program other c how what ≡ built_in program m c how what
  built_alike c how builtins.Make = refl
  built_alike c how builtins.MakeOn = refl
  built_alike c how builtins.Start =
      and_then_ext _ _ c.passed.receiver (λ (v : Value). unless_null c (is_null v) v (starts program other c) (starts program m c)
      (and_then_ext (started program other c v) (started program m c v) (thread_of_value m.heap v) (started_alike c v)))
  built_alike c how builtins.Run = refl
  built_alike c how builtins.Join =
      and_then_ext _ _ c.passed.receiver (λ (v : Value). unless_null c (is_null v) v (joins other c) (joins m c)
      (and_then_ext (joined other c) (joined m c) (thread_of_value m.heap v) (joined_alike c)))
  built_alike c how builtins.Exit = refl
  built_alike c how builtins.Length = refl

  named_alike : (c : Calling) (how : How) (ref : Target) → calls_named program other c how ref ≡ calls_named program m c how ref
  named_alike c how (target.ApiMethod index) = refl
  named_alike c how (target.Builtin index) = and_then_ext (built_in program other c how) (built_in program m c how) (builtin_at index) (built_alike c how)
  named_alike c how (target.Method class method) = refl
  named_alike c how target.None = refl
  named_alike c how (target.Field class field) = refl
  named_alike c how (target.ApiField index) = refl
  named_alike c how (target.ClassName name) = refl
  named_alike c how (target.Number n) = refl
  named_alike c how (target.Literal index) = refl

  calls_alike : (number : ℕ) (thread : Thread) (frame : Frame) (below : List Frame) (how : How) (ref : Target)
      → calls program other number thread frame below how ref ≡ calls program m number thread frame below how ref
  calls_alike number thread frame below how ref =
      and_then_ext _ _ (desc_named program ref) (λ desc. and_then_ext _ _ (taken (is_static_call how) (arity desc) frame.stack.items)
      (λ (passed : Taken). named_alike (record { number = number; thread = thread; frame = frame; below = below; passed = passed }) how ref))

  heap_alike : (a : Acting) (what : Heap) (ref : Target) → heap_stepped program other a what ref ≡ heap_stepped program m a what ref
  heap_alike a (heap.Call how) ref = calls_alike a.number a.thread a.frame a.below how ref
  heap_alike a heap.Throw ref = refl
  heap_alike a heap.Enter ref = refl
  heap_alike a heap.Exit ref = refl
  heap_alike a (heap.Return kind) ref = refl
  heap_alike a heap.Constant ref = refl
  heap_alike a (heap.ReadItem item) ref = refl
  heap_alike a (heap.WriteItem item) ref = refl
  heap_alike a (heap.Divide remainder) ref = refl
  heap_alike a heap.ReadStatic ref = refl
  heap_alike a heap.WriteStatic ref = refl
  heap_alike a heap.ReadField ref = refl
  heap_alike a heap.WriteField ref = refl
  heap_alike a heap.New ref = refl
  heap_alike a (heap.NewArray kind) ref = refl
  heap_alike a heap.NewArrayOf ref = refl
  heap_alike a heap.Length ref = refl
  heap_alike a heap.Cast ref = refl
  heap_alike a heap.IsInstance ref = refl

  insn_alike : (a : Acting) (insn : Insn) (ref : Target) (o : Option Heap)
      → option_map_or (λ what. heap_stepped program other a what ref) o (acts_on (world_of m) a (frame_stepped insn a.frame))
      ≡ option_map_or (λ what. heap_stepped program m a what ref) o (acts_on (world_of m) a (frame_stepped insn a.frame))
  insn_alike a insn ref None = refl
  insn_alike a insn ref (Some what) = heap_alike a what ref

  frames_alike : (number : ℕ) (thread : Thread) (frames : List Frame) → frames_stepped program other number thread frames ≡ frames_stepped program m number thread frames
  frames_alike number thread [] = refl
  frames_alike number thread (frame ∷ below) =
      and_then_ext _ _ (insn_at program frame)
      (λ (next : Insn × Target). insn_alike (record { number = number; thread = thread; frame = frame; below = below }) next.0 next.1 (heap_in (shape_of next.0)))

  pub running_alike : (number : ℕ) (thread : Thread) (choice : Choice)
      → doing_stepped program other number thread doings.Running choice ≡ doing_stepped program m number thread doings.Running choice
  running_alike number thread choices.Plain = frames_alike number thread thread.frames
  running_alike number thread (choices.Answer answer) = refl

-- ---- the thread in its place

pub ended_set : (threads : List Thread) (n k : ℕ) (t idle : Thread) → slice_get threads n ≡ Some t → is_ended idle.doing ≡ is_ended t.doing
    → option_map_or (λ (x : Thread). is_ended x.doing) (slice_get (slice_set threads n idle) k) false
    ≡ option_map_or (λ (x : Thread). is_ended x.doing) (slice_get threads k) false
ended_set [] n k t idle there same = refl
ended_set (x ∷ xs) zero zero t idle there same = let h : x ≡ t = cc in same ∙ ap (λ (y : Thread). is_ended y.doing) (sym h)
ended_set (x ∷ xs) zero (suc k) t idle there same = refl
ended_set (x ∷ xs) (suc n) zero t idle there same = refl
ended_set (x ∷ xs) (suc n) (suc k) t idle there same = ended_set xs n k t idle there same

-- what the thread does, once another that runs stands in its place, is what it does
pub doing_alike : (program : Program) (m : Machine) (number : ℕ) (t idle : Thread) (choice : Choice) → slice_get m.threads number ≡ Some t → idle.doing ≡ doings.Running
    → doing_stepped program (with_threads m (slice_set m.threads number idle)) number t t.doing choice ≡ doing_stepped program m number t t.doing choice
doing_alike program m number t idle choice there idles = by t.doing refl where
  by : (doing : Doing) → t.doing ≡ doing
      → doing_stepped program (with_threads m (slice_set m.threads number idle)) number t doing choice ≡ doing_stepped program m number t doing choice
  by doings.Running is =
      running_alike program m (slice_set m.threads number idle) (length-set m.threads number idle)
      (λ k. ended_set m.threads number k t idle there (ap is_ended idles ∙ sym (ap is_ended is))) number t choice
  by (doings.InCall method receiver arguments) is = refl
  by doings.Ended is = refl
