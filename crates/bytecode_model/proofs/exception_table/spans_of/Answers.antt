use Rattle.std.proofs.Common.{◌≡◌, ◌∙◌, ◌+◌, ◌++◌, ◌∷◌, [], Some, length, take, refl, sym, ap}
use Rattle.std.specs.Prelude.{filter, slice_get}
use Rattle.std.proofs.lemmas.List.{take_all, take_more}
use Rattle.std.proofs.lemmas.Option.{slice_get_read}
use Rattle.bytecode_model.specs.declared.program.Handler.{Handler}
use Rattle.bytecode_model.specs.Rules.{covers}
use Rattle.bytecode_model.specs.Spans.{places_near}
use Rattle.bytecode_model.proofs.Picking.{one_more}
use Rattle.bytecode_model.proofs.exception_table.spans_of.Goals as goal

pub loop-handler-preserved : goal.loop-handler-preserved
loop-handler-preserved c =
    let table = c.args.table.now in
    let i = c.loop-handler.handler-index in
    let handler = c.handler-item.result in
    let before = c.loop-handler.invariant in
    let there : slice_get table c.loop-handler.place ≡ Some handler = rw before.place (slice_get_read table (length table) i handler refl c.loop-handler-test.true c.handler-item.is) in
    let more : take i table ++ handler ∷ [] ≡ take (i + 1) table =
    ap (λ (h : Handler). take i table ++ h ∷ []) c.handler-item.is ∙ sym (take_more table i handler c.loop-handler-test.true) in
    record {
      place = ap (λ n. n + 1) before.place;
      listed = λ at.
          one_more (covers at) table (take i table) handler c.loop-handler.place (places_near c.loop-handler.spans.items at) (places_near c.add_handler.new.spans.items at) there
          (c.in_ok-add_handler.ensures at) (before.listed at)
          ∙ ap (filter (covers at)) more;
    }

pub returns : goal.returns
returns c at =
    c.loop-handler.invariant.listed at ∙ ap (filter (covers at)) (take_all c.loop-handler.handler-index c.args.table.now c.loop-handler-test.false)
