use Rattle.std.proofs.Common.{◌+◌, ℕ}
use Rattle.std.proofs.lemmas.Result.{err_from_is_err_and}
use Rattle.mon_base.proofs.Lists.{front_at}
use Rattle.bytecode_model.proofs.Lists.{none_left}
use Rattle.class_linking.proofs.Loop.{goes_on, ends, is_done}
use Rattle.class_codec.specs.declared.tree.TableEntry.{TableEntry}
use Rattle.class_linking.specs.Handlers.{handler_linked}
use Rattle.class_linking.proofs.handlers.handlers_linked.Goals as goal

pub loop-left-preserved : goal.loop-left-preserved
loop-left-preserved c =
    let none : TableEntry = record { from = 0; to = 0; at = 0; class = 0 } in
    let split = front_at c.loop-left.left.now none c.in-len1-up.len_at_least in
    let one = λ (i : ℕ). handler_linked c.args.index.now.files c.args.index.now.listing c.args.class.now c.args.pool.now c.args.method c.args.end c.args.starts.now in
    (c.loop-left.invariant.0 + 1, rw c.in_ok-push.ensures.items (goes_on one c.loop-left.handlers.items _ _ _ c.in_ok-handler.handler c.loop-left.invariant.0 _ split c.in_ok-handler.ensures c.loop-left.invariant.1))

pub returns-in_err-handler : goal.returns-in_err-handler
returns-in_err-handler c =
    let none : TableEntry = record { from = 0; to = 0; at = 0; class = 0 } in
    let split = front_at c.loop-left.left.now none c.in-len1-up.len_at_least in
    let one = λ (i : ℕ). handler_linked c.args.index.now.files c.args.index.now.listing c.args.class.now c.args.pool.now c.args.method c.args.end c.args.starts.now in
    let p = err_from_is_err_and c.from_residual-in_err-handler.result c.from_residual-in_err-handler.ensures.1 in
    rw (p.1, p.2) (ends one c.in_err-handler.field-0.0 c.loop-left.handlers.items _ _ _ c.loop-left.invariant.0 _ split c.in_err-handler.ensures c.loop-left.invariant.1)

pub returns : goal.returns
returns c =
    let one = λ (i : ℕ). handler_linked c.args.index.now.files c.args.index.now.listing c.args.class.now c.args.pool.now c.args.method c.args.end c.args.starts.now in
    rw c.from_vec.ensures (is_done one c.loop-left.handlers.items c.loop-left.left.now c.loop-left.invariant.0 _ (none_left c.loop-left.left.now c.in_default.len_below) c.loop-left.invariant.1)
