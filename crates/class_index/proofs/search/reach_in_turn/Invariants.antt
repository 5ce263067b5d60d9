use Rattle.std.proofs.Common.{◌≡◌, ◌-◌}
use Rattle.class_index.specs.Index.{NamesSeen}
use Rattle.bytecode_model.specs.SearchOrder.{reached_in_turn}
use Rattle.class_index.proofs.search.reach_in_turn.Given as goal

abbrev pub invariant-loop : goal.invariant-loop
invariant-loop l = record {
  seen : NamesSeen l.seen l.found;
  so_far : reached_in_turn (l.most - l.counter) l.classes l.found l.waiting.items ≡ reached_in_turn l.most l.classes l.fn.found l.names;
}
