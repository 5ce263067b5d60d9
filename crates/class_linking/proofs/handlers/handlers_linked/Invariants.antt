use Rattle.std.proofs.Common.{◌≡◌, ℕ, length}
use Rattle.class_linking.specs.Fault.{linked_from}
use Rattle.class_linking.specs.Handlers.{handler_linked}
use Rattle.class_linking.proofs.Loop.{with_front}
use Rattle.class_linking.proofs.handlers.handlers_linked.Given as goal

abbrev pub invariant-loop-left : goal.invariant-loop-left
invariant-loop-left l =
    (at : ℕ) × (with_front l.handlers.items (linked_from (λ i. handler_linked l.index.files l.index.listing l.class l.pool l.method l.end l.starts) at l.left)
    ≡ linked_from (λ i. handler_linked l.index.files l.index.listing l.class l.pool l.method l.end l.starts) 0 l.entries)

abbrev pub decreases-loop-left : goal.decreases-loop-left
decreases-loop-left l = length l.left
