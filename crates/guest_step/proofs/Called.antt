-- The call that the top frame makes.
use Rattle.std.proofs.Common.{◌≡◌, ℕ, Bool, List, [], ◌∷◌, Option, Some, None, sym, ap, ◌∙◌, subst}
use Rattle.std.specs.Prelude.{Result, slice_get, option_map, option_and_then}
use Rattle.std.specs.Option.{option_map_or}
use Rattle.api_listing.specs.declared.events.Event.{Event}
use Rattle.insn_codec.specs.declared.shape.How.{How}
use Rattle.bytecode_model.specs.declared.program.Program.{Program}
use Rattle.bytecode_model.specs.declared.program.Target.{Target}
use Rattle.bytecode_model.specs.SearchOrder.{Name}
use Rattle.guest_heap.specs.declared.frame.Frame.{Frame}
use Rattle.guest_heap.specs.declared.thread.Thread.{Thread}
use Rattle.guest_heap.specs.declared.value.Value.{Value}
use Rattle.guest_model.specs.declared.machine.Machine.{Machine}
use Rattle.guest_model.specs.Calls.{Taken, arity, taken}
use Rattle.guest_model.specs.Calling.{Calling, calls, calls_named, desc_named, is_static_call}
use Rattle.guest_model.specs.Changes.{Change}
use Rattle.guest_model.specs.Stepping.{Acting}
use Rattle.guest_threads.specs.Acts.{ActsIn, acting}
use Rattle.guest_threads.specs.Calls.{calling, taken_from}
use Rattle.guest_model.specs.declared.fault.StepFault.{StepFault}
use Rattle.guest_threads.specs.declared.passing.Call.{Call}

inside : {X : Type 0} (x y : X) → Some x ≡ Some y → x ≡ y
inside {X = X} x y e = ap (λ (o : Option X). option_map_or (λ (z : X). z) o x) e

-- what is done once the operands are taken
then_done : {B : Type 0} (desc : Option Name) (n : ℕ) (static : Bool) (items : List Value) (t : Taken) (go : Taken → Option B)
    → Some n ≡ option_map arity desc → Some t ≡ taken static n items → option_and_then (λ (d : Name). option_and_then go (taken static (arity d) items)) desc ≡ go t
then_done None n static items t go e h = absurd cc
then_done (Some d) n static items t go e h =
    ap (option_and_then go) (ap (λ (m : ℕ). taken static m items) (sym (inside n (arity d) e)) ∙ sym h)

in_frames : (program : Program) (machine : Machine) (thread : Thread) (frames : List Frame) (how : How) (target : Target) (frame : Frame) (n number : ℕ) (call : Call)
    → Some frame ≡ slice_get frames 0 → Some n ≡ option_map arity (desc_named program target)
    → Some (taken_from frame.stack.items call) ≡ taken (is_static_call how) n frame.stack.items → call.number ≡ number
    → acting number thread frames (λ (a : Acting). calls program machine a.number a.thread a.frame a.below how target)
    ≡ calling call thread frames (λ (c : Calling). calls_named program machine c how target)
in_frames program machine thread [] how target frame n number call top e h is = absurd cc
in_frames program machine thread (f ∷ below) how target frame n number call top e h is =
    let on_top = inside frame f top in
    then_done (desc_named program target) n (is_static_call how) f.stack.items (taken_from f.stack.items call)
    (λ (passed : Taken). calls_named program machine (record { number = number; thread = thread; frame = f; below = below; passed = passed }) how target) e
    (subst (λ (g : Frame). Some (taken_from g.stack.items call) ≡ taken (is_static_call how) n g.stack.items) on_top h)
    ∙ ap (λ (m : ℕ). calls_named program machine (record { number = m; thread = thread; frame = f; below = below; passed = taken_from f.stack.items call }) how target) (sym is)

-- the call of what is named is the call that the frame makes
pub call_acts : (program : Program) (old new : Machine) (thread left : Thread) (how : How) (target : Target) (frame : Frame) (n number : ℕ) (call : Call)
    (r : Result (Option Event) StepFault) → Some frame ≡ slice_get thread.frames 0 → Some n ≡ option_map arity (desc_named program target)
    → Some (taken_from frame.stack.items call) ≡ taken (is_static_call how) n frame.stack.items → call.number ≡ number
    → ActsIn r old new thread left (calling call thread thread.frames (λ (c : Calling). calls_named program old c how target))
    → ActsIn r old new thread left (acting number thread thread.frames (λ (a : Acting). calls program old a.number a.thread a.frame a.below how target))
call_acts program old new thread left how target frame n number call r top e h is acts =
    subst (λ (made : Option Change). ActsIn r old new thread left made) (sym (in_frames program old thread thread.frames how target frame n number call top e h is)) acts
