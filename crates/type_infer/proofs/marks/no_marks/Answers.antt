use Rattle.std.proofs.Common.{◌∙◌, ◌++◌, ◌∷◌, [], false, ap}
use Rattle.std.proofs.lemmas.List.{replicate_more}
use Rattle.type_infer.proofs.marks.no_marks.Goals as goal

pub loop-preserved : goal.loop-preserved
loop-preserved c = c.in_ok-push.ensures.items ∙ ap (λ xs. xs ++ false ∷ []) c.loop.invariant ∙ replicate_more c.loop.counter false
