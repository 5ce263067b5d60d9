use Rattle.std.proofs.Common.{◌∙◌, ap, ◌||◌}
use Rattle.std.specs.Prelude.{bytes_eq}
use Rattle.listing_text.proofs.Lists.{any_more}
use Rattle.listing_text.proofs.seen.names_of.Goals as goal

pub loop-class-preserved : goal.loop-class-preserved
loop-class-preserved c =
    λ q. c.in_ok-add_name.ensures q ∙ ap (λ b. bytes_eq c.class-item.result.name q || b) (c.loop-class.invariant q)
    ∙ any_more (λ c n. bytes_eq c.name n) c.args.classes.now c.loop-class.class-index c.class-item.result q c.loop-class-test.true c.class-item.is
