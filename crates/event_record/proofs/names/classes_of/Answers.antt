use Rattle.std.proofs.Common.{List, ℕ, ◌∙◌, ap, ◌||◌}
use Rattle.std.specs.Prelude.{bytes_eq}
use Rattle.event_record.specs.Library.{class_listed}
use Rattle.event_record.proofs.Naming.{known_more}
use Rattle.event_record.proofs.names.classes_of.Goals as goal

pub loop-class-preserved : goal.loop-class-preserved
loop-class-preserved c =
    λ q. c.in_ok-add_name.ensures q
    ∙ ap (λ (name : List ℕ). bytes_eq name q || class_listed c.loop-class.names q) c.as_slice.ensures
    ∙ ap (λ b. bytes_eq c.class-item.result.name q || b) (c.loop-class.invariant q)
    ∙ known_more c.args.classes.now c.loop-class.class-index c.class-item.result q c.loop-class-test.true c.class-item.is
