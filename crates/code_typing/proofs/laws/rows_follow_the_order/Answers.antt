use Rattle.code_typing.proofs.OrderRows.{alone_kept, left_kept, goes_kept, below_itself, in_order}
use Rattle.code_typing.proofs.laws.rows_follow_the_order.Goals as goal

pub returns-clause-alone : goal.returns-clause-alone
returns-clause-alone c = alone_kept

pub returns-clause-left : goal.returns-clause-left
returns-clause-left c = left_kept

pub returns-clause-goes : goal.returns-clause-goes
returns-clause-goes c = goes_kept

pub returns-clause-reflexive : goal.returns-clause-reflexive
returns-clause-reflexive c = below_itself

pub returns-clause-transitive : goal.returns-clause-transitive
returns-clause-transitive c = in_order
