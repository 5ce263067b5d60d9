-- What an instruction comes to, said by other words.
use Rattle.std.proofs.Common.{◌≡◌, List, Option, Ok, ap, ◌∙◌}
use Rattle.guest_heap.specs.declared.object.Monitor.{Monitor}
use Rattle.guest_model.specs.Changes.{World}
use Rattle.guest_model.specs.HeapOperations.{HeapResult}
use Rattle.guest_operations.specs.declared.completion.Completion.{Completion}
use Rattle.guest_operations.specs.Operates.{Operates, OperationState, fitting, with_monitors}

pub operates_same : (r : Option Completion) (old new : OperationState) (f g : World → HeapResult)
    → ((monitors : List Monitor) → g (with_monitors old monitors) ≡ f (with_monitors old monitors)) → Operates (Ok r) old new f → Operates (Ok r) old new g
operates_same r old new f g same w = (λ monitors. ap (fitting old.stack.size) (same monitors) ∙ w.0 monitors, w.1)
