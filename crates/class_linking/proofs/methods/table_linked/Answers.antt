use Rattle.std.proofs.Common.{◌≡◌, ℕ, length, arith}
use Rattle.class_codec.specs.declared.tree.TableEntry.{TableEntry}
use Rattle.bytecode_model.specs.declared.program.Handler.{Handler}
use Rattle.class_linking.specs.Fault.{Linked}
use Rattle.class_linking.specs.Handlers.{handler_linked}
use Rattle.class_linking.proofs.Loop.{same_length}
use Rattle.class_linking.proofs.methods.table_linked.Goals as goal

pub new-requires-2 : goal.new-requires-2
new-requires-2 c =
    let one : ℕ → TableEntry → Linked Handler =
    λ at. handler_linked c.args.index.now.files c.args.index.now.listing c.args.class.now c.args.pool.now c.args.method (length c.args.insns.now) c.in_ok-starts.starts in
    let many : length c.in_ok-list.list ≡ length c.args.entries.now = same_length one 0 c.args.entries.now c.in_ok-list.list c.in_ok-list.ensures in
    omega (arith, c.requires.table, many)
