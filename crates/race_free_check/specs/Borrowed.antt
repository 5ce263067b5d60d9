-- What a base is that the code borrows. (docs/RACES.md)
use Rattle.conspec_automaton.specs.Points.{Argument, Result, TypedBase, Variable}
use Rattle.race_free_check.specs.declared.points.BaseRef.{BaseRef}
use Rattle.race_free_check.specs.declared.points.BaseRef.TheVariants as refs

abbrev pub base_borrowed : BaseRef → TypedBase
base_borrowed (refs.Variable maxint place var) = Variable maxint place var.now
base_borrowed (refs.Argument place kind) = Argument place kind
base_borrowed (refs.Result kind) = Result kind
