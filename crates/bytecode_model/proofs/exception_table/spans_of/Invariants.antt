use Rattle.std.proofs.Common.{◌≡◌, ℕ, take}
use Rattle.std.specs.Prelude.{filter}
use Rattle.bytecode_model.specs.Rules.{covers}
use Rattle.bytecode_model.specs.Spans.{handlers_at, places_near}
use Rattle.bytecode_model.proofs.exception_table.spans_of.Given as goal

abbrev pub invariant-loop-handler : goal.invariant-loop-handler
invariant-loop-handler l = record {
  place : l.place ≡ l.handler-index;
  listed : (at : ℕ) → filter (covers at) (handlers_at l.table (places_near l.spans.items at)) ≡ filter (covers at) (take l.handler-index l.table);
}
