use Rattle.std.proofs.Common.{rules}
use Rattle.guest_heap.proofs.Reversed.{reverse-take}
use Rattle.guest_heap.proofs.stack.Stack.drop_top.Goals as goal

-- src/stack.rt:79:5
pub returns-clause-left : goal.returns-clause-left
returns-clause-left c = grind (rules, reverse-take c.self.inside.items.items c.args.count)
