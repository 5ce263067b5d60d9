use Rattle.std.proofs.Common.{◌∙◌, ap, sym, ◌||◌}
use Rattle.listing_text.specs.Reading.{is_named, class_said}
use Rattle.listing_text.proofs.Growing.{known_more}
use Rattle.listing_text.proofs.reading.names_in.Goals as goal

pub loop-line-preserved : goal.loop-line-preserved
loop-line-preserved c =
    λ q. c.in_ok-add_class.ensures q ∙ ap (λ b. is_named q (class_said c.line-item.result) || b) (c.loop-line.invariant q)
    ∙ sym (known_more c.args.lines.now c.loop-line.line-index c.line-item.result q c.loop-line-test.true c.line-item.is)
