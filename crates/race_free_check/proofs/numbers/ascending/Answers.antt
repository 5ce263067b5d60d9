use Rattle.std.proofs.Common.{sym, subst, ◌∙◌}
use Rattle.std.specs.Prelude.{List, ℤ}
use Rattle.std.specs.Ordering.{int_eq}
use Rattle.std.proofs.lemmas.List.Filters.{dedup_is}
use Rattle.race_free_check.specs.Small.{AreSmall}
use Rattle.race_free_check.proofs.Bounded.{small_in_order}
use Rattle.race_free_check.proofs.Rising.{ascending_is}
use Rattle.race_free_check.proofs.numbers.ascending.Goals as goal

pub returns-clause-is : goal.returns-clause-is
returns-clause-is c = dedup_is int_eq _ _ c.dedup.ensures.filtered ∙ ascending_is _ _ c.sort_unstable.ensures.permutation c.sort_unstable.ensures.sorted

pub returns-clause-small : goal.returns-clause-small
returns-clause-small c =
    λ bound small. subst (λ (ns : List ℤ). AreSmall bound ns) (sym (returns-clause-is c)) (small_in_order bound c.args.numbers.items small)
