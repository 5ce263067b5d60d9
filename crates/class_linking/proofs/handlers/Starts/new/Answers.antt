use Rattle.std.proofs.Common.{sym, subst}
use Rattle.class_linking.specs.Handlers.{RisesFrom}
use Rattle.class_linking.proofs.Starting.{starts_rise}
use Rattle.class_linking.proofs.handlers.Starts.new.Goals as goal

pub invariant_of-result : goal.invariant_of-result
invariant_of-result c = subst (RisesFrom 0) (sym c.in_ok-list.ensures) (starts_rise 0 c.args.insns.now)
