use Rattle.std.proofs.Common.{◌≡◌, ◌∙◌, ◌++◌, List, [], ◌∷◌, Option, Some, None, ap}
use Rattle.std.specs.Prelude.{option_map, slice_get, slice_set}
use Rattle.std.specs.Option.{option_to_list}
use Rattle.bytecode_model.specs.declared.program.Program.{Program}
use Rattle.guest_frames.specs.Stepping.{after}
use Rattle.guest_heap.specs.declared.frame.Frame.{Frame}
use Rattle.guest_heap.specs.declared.thread.Thread.{Thread}
use Rattle.guest_heap.specs.declared.value.Value.{Value}
use Rattle.guest_model.specs.Parts.{running}
use Rattle.guest_threads.specs.Acts.{thread_returned}
use Rattle.guest_threads.proofs.Held.{set_same}
use Rattle.guest_threads.proofs.returning.resume_in_frame.Goals as goal

refused : (program : Program) (thread : Thread) (frames : List Frame) (top : Frame) (value : Option Value) → slice_get frames 0 ≡ Some top
    → after top (option_to_list value ++ top.stack.items) ≡ None → thread_returned program thread frames value ≡ None
refused program thread [] top value there not = absurd cc
refused program thread (first ∷ below) top value there not =
    let same : first ≡ top = cc in
    ap (λ (f : Frame). option_map (λ (g : Frame). running (g ∷ below) thread.to_begin) (after f (option_to_list value ++ f.stack.items))) same
    ∙ ap (option_map (λ (g : Frame). running (g ∷ below) thread.to_begin)) not

pub returns-in-Err-NotEnabled : goal.returns-in-Err-NotEnabled
returns-in-Err-NotEnabled c program =
    let frames = c.args.thread.now.frames in
    let kept = rw c.in-Err-NotEnabled.field-0-is at c.in-Err-NotEnabled.ensures.is in
    let same =
    ap (slice_set frames 0) kept.1
    ∙ set_same frames 0 c.top_mut.result.now c.top_mut.ensures.top in (
      refused program c.args.thread.now frames c.top_mut.result.now c.args.value c.top_mut.ensures.top kept.0,
      ap (λ (fs : List Frame). record { frames = fs; to_begin = c.args.thread.now.to_begin; doing = c.args.thread.now.doing }) same,
    )
