use Rattle.std.proofs.Common.{◌≡◌, ◌-◌, length}
use Rattle.api_listing.specs.Nearest.{upwards}
use Rattle.bytecode_model.specs.SearchOrder.{each_with_interfaces, field_order}
use Rattle.class_index.specs.Index.{NamesSeen}
use Rattle.class_index.proofs.search.field_order.Given as goal

abbrev pub invariant-loop : goal.invariant-loop
invariant-loop l = record {
  seen : NamesSeen l.seen l.order;
  so_far : each_with_interfaces l.classes l.order (upwards (length l.classes - l.counter) l.classes l.at) ≡ field_order l.classes l.name;
}
