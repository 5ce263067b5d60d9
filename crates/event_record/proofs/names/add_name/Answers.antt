use Rattle.std.proofs.Common.{◌∙◌, ap, ◌||◌}
use Rattle.std.specs.Ordering.{is_eq, nat_cmp}
use Rattle.std.specs.Cmp.Lexicographic.{slice_cmp}
use Rattle.std.proofs.lemmas.Map.Text.{is_eq-slice_cmp}
use Rattle.event_record.specs.Library.{class_listed}
use Rattle.event_record.proofs.Naming.{cond_or, word_at}
use Rattle.event_record.proofs.names.add_name.Goals as goal

pub returns : goal.returns
returns c =
    λ q. c.in_ok-insert.ensures.updates.0 (word_at q) ∙ cond_or (is_eq (slice_cmp nat_cmp c.args.name.now q)) (class_listed c.args.names.now q)
    ∙ ap (λ b. b || class_listed c.args.names.now q) (is_eq-slice_cmp c.args.name.now q)
