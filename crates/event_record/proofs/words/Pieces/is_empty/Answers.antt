use Rattle.std.proofs.Common.{ap, ◌∙◌}
use Rattle.event_record.specs.Record.{is_none}
use Rattle.event_record.proofs.Cutting.{nothing_left}
use Rattle.event_record.proofs.words.Pieces.is_empty.Goals as goal

pub returns : goal.returns
returns c = nothing_left (λ p. p.now) c.self.inside.byte c.self.inside.left c.is_none.result c.is_none.ensures ∙ ap is_none c.self.view_is
